-- How often the inputs of a transition can be taken together from a marking (document 02, A6). "A6 still counts inputs alone": caps play no part.
use Rattle.std.specs.Prelude.{ℕ, suc, ◌+◌, ◌-◌, ◌*◌, ◌/◌, min, ◌<◌, ◌≤◌, true, false, List, [], ◌∷◌, ◌≡◌}
use Rattle.net.specs.Numbers.{selected}
use Rattle.net.specs.Net.{Marking, Net, input, takes_from}

-- "the largest k", or 'unlimited'
pub data Takings : Type 0 where
  times : (k : ℕ) → Takings
  unlimited : Takings

-- how often place p has enough: M(p) by in(p,t), rounded down; any number of times where in(p,t) is 0
unfoldable pub allowed : Net → ℕ → Marking → ℕ → Takings
allowed N t M p = elim (takes_from N t p) [ true ↦ times (M p / input N p t) | false ↦ unlimited ]

-- as often as both allow
abbrev pub fewer : Takings → Takings → Takings
fewer unlimited b = b
fewer (times k) unlimited = times k
fewer (times k) (times l) = times (min k l)

-- as often as each of these places allows
unfoldable pub fewest : Net → ℕ → Marking → List ℕ → Takings
fewest N t M [] = unlimited
fewest N t M (p ∷ ps) = fewer (allowed N t M p) (fewest N t M ps)

-- "how many times can the inputs of a transition be taken together?": as often as "every place" allows
unfoldable pub together : Net → ℕ → Marking → Takings
together N t M = fewest N t M (selected (λ p. true) 0 N.places)

-- "the exact remainder M(p) - k × in(p,t)"; where it is 'unlimited', "the remainders equal the marking"
unfoldable pub remainder : Net → ℕ → Marking → Takings → Marking
remainder N t M (times k) = λ p. M p - k * input N p t
remainder N t M unlimited = M

-- "k × in(p,t) at most M(p) for every place"
unfoldable pub Takable : Net → ℕ → Marking → ℕ → Type 0
Takable N t M k = (p : ℕ) → p < N.places → k * input N p t ≤ M p

-- "A transition with no inputs"
unfoldable pub NoInputs : Net → ℕ → Type 0
NoInputs N t = (p : ℕ) → p < N.places → input N p t ≡ 0

-- k is "the largest", and `rest` what is left of M after k takings
pub record Largest (N : Net) (t : ℕ) (M : Marking) (k : ℕ) (rest : Marking) : Type 0 where
  pub fits : Takable N t M k
  -- one taking more does not fit at some place, so none above k does
  pub no_more : (p : ℕ) × (p < N.places) × (M p < suc k * input N p t)
  pub largest : (l : ℕ) → Takable N t M l → l ≤ k
  pub exact : (p : ℕ) → p < N.places → rest p + k * input N p t ≡ M p

-- any number of takings fits, and nothing is taken
pub record Unlimited (N : Net) (t : ℕ) (M rest : Marking) : Type 0 where
  pub no_inputs : NoInputs N t
  pub fits : (k : ℕ) → Takable N t M k
  pub same : (p : ℕ) → p < N.places → rest p ≡ M p
