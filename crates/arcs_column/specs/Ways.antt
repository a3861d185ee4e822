-- Sums of the weights that go in one direction, over a run of arcs.
use Rattle.std.specs.Prelude.{ℕ, zero, suc, ◌+◌, ◌*◌, ◌&&◌, List, ◌≡◌, eqb}
use Rattle.net.specs.Net.{counted}
use Rattle.net.specs.declared.Arc.{Arc}
use Rattle.file_arcs.specs.Layout.{arc_at}

-- the place of arc i of those that start at `start`
abbrev pub place_at : List ℕ → ℕ → ℕ → ℕ
place_at s start i = (arc_at s (start + 8 * i)).place

-- its transition
abbrev pub transition_at : List ℕ → ℕ → ℕ → ℕ
transition_at s start i = (arc_at s (start + 8 * i)).transition

-- its direction
abbrev pub direction_at : List ℕ → ℕ → ℕ → ℕ
direction_at s start i = (arc_at s (start + 8 * i)).direction

-- arc i of those that start at `start` joins p and t in direction d
pub record Joins (d p t : ℕ) (s : List ℕ) (start i : ℕ) : Type 0 where
  pub transition : (arc_at s (start + 8 * i)).transition ≡ t
  pub direction : (arc_at s (start + 8 * i)).direction ≡ d
  pub place : (arc_at s (start + 8 * i)).place ≡ p

-- what an arc adds to the sum of p in direction d
abbrev pub share : ℕ → ℕ → Arc → ℕ
share d p a = counted (eqb a.direction d && eqb a.place p) a.weight

-- the weights of the first j arcs that are at p and go in direction d
unfoldable pub sum_on : ℕ → List ℕ → ℕ → ℕ → ℕ → ℕ
sum_on d s start p zero = 0
sum_on d s start p (suc j) = sum_on d s start p j + share d p (arc_at s (start + 8 * j))
