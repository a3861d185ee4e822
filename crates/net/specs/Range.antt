-- The marking that a list of firings needs, and markings known within a range (document 02, A11). "Plans with caps are refused": caps play no part.
use Rattle.std.specs.Prelude.{ℕ, ◌+◌, ◌-◌, ◌<◌, ◌≤◌, Bool, true, false, not, List, [], ◌∷◌, ◌↔◌, ltb}
use Rattle.net.specs.Numbers.{any, selected}
use Rattle.net.specs.Net.{Marking, Net, input, output, Fires}

-- "the least marking that the list needs": in(p,t) of its first firing, and what the firings after that need beyond its out(p,t)
unfoldable pub need : Net → List ℕ → Marking
need N [] = λ p. 0
need N (t ∷ ts) = λ p. input N p t + (need N ts p - output N p t)

-- a marking M that "covers the need"
unfoldable pub Covers : Net → Marking → Marking → Type 0
Covers N M needed = (p : ℕ) → p < N.places → needed p ≤ M p

-- whether it does: no place has fewer tokens
unfoldable pub covers : Net → Marking → Marking → Bool
covers N M needed = not (any (λ p. ltb (M p) (needed p)) (selected (λ p. true) 0 N.places))

-- "tokens lie between the plan's marking and a lent upper list"
unfoldable pub Between : Net → Marking → Marking → Type 0
Between N upper M = (p : ℕ) → p < N.places → (N.marking p ≤ M p) × (M p ≤ upper p)

-- "from every marking in the range, from some but not all, or from none"
pub data Extent : Type 0 where
  every : Extent
  partly : Extent
  never : Extent

-- whether the list fires so: the plan's marking is the least of the range, the upper one the largest
unfoldable pub extent : Net → Marking → List ℕ → Extent
extent N upper ts = elim (covers N N.marking (need N ts)) [
  | true ↦ every
  | false ↦ elim (covers N upper (need N ts)) [ true ↦ partly | false ↦ never ]
]

-- "fires from every marking in the range"
abbrev pub FromEvery : Net → Marking → List ℕ → Type 0
FromEvery N upper ts = (M : Marking) → Between N upper M → Fires N M ts

-- "from some but not all"
abbrev pub FromSome : Net → Marking → List ℕ → Type 0
FromSome N upper ts = ((M : Marking) × Between N upper M × Fires N M ts) × ((M : Marking) × Between N upper M × (¬ Fires N M ts))

-- "or from none"
abbrev pub FromNone : Net → Marking → List ℕ → Type 0
FromNone N upper ts = (M : Marking) → Between N upper M → ¬ Fires N M ts

-- `needed` is the need of the list
pub record Needs (N : Net) (ts : List ℕ) (needed : Marking) : Type 0 where
  -- "the list fires from a marking exactly when that covers the need"
  pub exactly : (M : Marking) → Fires N M ts ↔ Covers N M needed
  -- "the least marking": the list fires from it, and from none that has fewer tokens on some place
  pub itself : Fires N needed ts
  pub least : (M : Marking) → Fires N M ts → Covers N M needed

-- what people conclude from the need: who has more has enough
pub record MoreIsEnough (N : Net) (ts : List ℕ) : Type 0 where
  pub more : (M M' : Marking) → Covers N M' M → Fires N M ts → Fires N M' ts
