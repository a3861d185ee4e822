-- One firing of a marking that stands in a list: what it asks, what it leaves, and where that is above a cap.
use Rattle.std.specs.Prelude.{ℕ, ◌+◌, ◌-◌, ◌^◌, ◌≤◌, ◌<◌, List, ◌≡◌, T, eqb, get_or, Option, None, Some}
use Rattle.net.specs.Net.{Net, Marking, input, output, fire, capped, WithinCaps, Enabled, FullAt}
use Rattle.file.specs.Layout.{net_from}
use Rattle.file_header.specs.declared.Header.{Header}
use Rattle.arcs_starts.specs.Table.{choose}
use Rattle.replay_steps.specs.Steps.{held, Holds}
use Rattle.replay_firing.specs.declared.Excess.{Excess}

-- t is a transition, no place of m is short for it, and m is within the caps
pub record Firable (s : List ℕ) (h : Header) (t : ℕ) (m : List ℕ) : Type 0 where
  pub known : t < h.transitions
  pub supplied : (p : ℕ) → input (net_from s h) p t ≤ get_or m p 0
  pub low : (p : ℕ) → get_or m p 0 < 2 ^ 62
  pub caps : WithinCaps (net_from s h) (held m)

-- m is what a firing of t left: all that t adds is there, and no more than that is above a cap
pub record Left (s : List ℕ) (h : Header) (t : ℕ) (m : List ℕ) : Type 0 where
  pub known : t < h.transitions
  pub added : (p : ℕ) → output (net_from s h) p t ≤ get_or m p 0
  pub low : (p : ℕ) → get_or m p 0 < 2 ^ 63
  pub near : (p : ℕ) → p < h.places → T (capped (net_from s h) p) → get_or m p 0 ≤ (net_from s h).cap p + output (net_from s h) p t

-- a firing undone: what t added is taken away, and what it took is given back
abbrev pub unfired : Net → ℕ → Marking → Marking
unfired N t M = λ p. M p - output N p t + input N p t

-- the tokens above a cap, of n: none where the cap is 0
abbrev pub excess_over : ℕ → ℕ → ℕ
excess_over cap n = choose (eqb cap 0) 0 (n - cap)

-- of the places with out above 0, p is the lowest above its cap, by n tokens
pub record Overfull (N : Net) (t : ℕ) (M : Marking) (p n : ℕ) : Type 0 where
  pub place : p < N.places
  pub has_cap : T (capped N p)
  pub amount : M p ≡ N.cap p + n
  pub some : 0 < n
  pub lowest : (q : ℕ) → q < p → 0 < output N q t → T (capped N q) → M q ≤ N.cap q

-- the lowest place above its cap was looked for, where a firing of t left M
abbrev pub FullFound : Net → ℕ → Marking → Option Excess → Type 0
FullFound N t M None = (q : ℕ) → 0 < output N q t → T (capped N q) → M q ≤ N.cap q
FullFound N t M (Some e) = Overfull N t M e.place e.tokens

-- t is enabled at m and has left m', or a place is full and m stays
abbrev pub Filled : Net → ℕ → List ℕ → List ℕ → Option Excess → Type 0
Filled N t m m' None = Enabled N t (held m) × Holds m m' (fire N t (held m))
Filled N t m m' (Some e) = FullAt N t (held m) e.place e.tokens × (m' ≡ m)
