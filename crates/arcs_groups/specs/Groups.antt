-- Parallel arcs: the arcs that join one place and one transition in one direction. In order, they stand next to each other.
use Rattle.std.specs.Prelude.{ℕ, zero, suc, ◌+◌, ◌*◌, ◌≤◌, ◌<◌, List, length}
use Rattle.file_arcs.specs.Layout.{arc_at}
use Rattle.arcs_column.specs.Ways.{place_at, transition_at, direction_at, Joins}

-- the weight of arc j of those that start at `start`
abbrev pub weight_at : List ℕ → ℕ → ℕ → ℕ
weight_at s start j = (arc_at s (start + 8 * j)).weight

-- arc i joins the same place and transition in the same direction as arc j
abbrev pub Parallel : List ℕ → ℕ → ℕ → ℕ → Type 0
Parallel s start j i = Joins (direction_at s start j) (place_at s start j) (transition_at s start j) s start i

-- arc j is the first of its group
abbrev pub Opens : List ℕ → ℕ → ℕ → Type 0
Opens s start j = (i : ℕ) → i < j → Parallel s start j i → ⊥

-- the arcs from j to e stand in the file, and there is one
pub record Stands (s : List ℕ) (start j e : ℕ) : Type 0 where
  pub some : j < e
  pub few : e ≤ 4096
  pub fit : start + 8 * e ≤ length s
  pub short : length s ≤ 65536

-- the arcs from j to e join the same two in the same direction
pub record Alike (s : List ℕ) (start j e : ℕ) : Type 0 where
  pub after : j < e
  pub same : (i : ℕ) → j ≤ i → i < e → Parallel s start j i

-- the same, and arc e does not, unless it is arc `to`
pub record GroupEnd (s : List ℕ) (start j to e : ℕ) : Type 0 where
  pub after : j < e
  pub within : e ≤ to
  pub same : (i : ℕ) → j ≤ i → i < e → Parallel s start j i
  pub other : e < to → Parallel s start j e → ⊥

-- the sum of the weights of n arcs from arc j on
unfoldable pub run_weight : List ℕ → ℕ → ℕ → ℕ → ℕ
run_weight s start j zero = 0
run_weight s start j (suc n) = run_weight s start j n + weight_at s start (j + n)
