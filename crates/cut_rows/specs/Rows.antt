-- The arcs of each place that lower it, and those that raise it, linked by groups of parallel arcs: from the last of them to the one before it.
use Rattle.std.specs.Prelude.{ℕ, zero, suc, ◌+◌, ◌*◌, ◌-◌, ◌/◌, ◌%◌, ◌≤◌, ◌<◌, Bool, List, ◌≡◌, T, ltb, length, get_or}
use Rattle.net.specs.Net.{Net, input, output}
use Rattle.file.specs.Layout.{net_from}
use Rattle.file_header.specs.declared.Header.{Header}
use Rattle.arcs_starts.specs.Table.{Split}
use Rattle.arcs_column.specs.Ways.{place_at, transition_at, direction_at}
use Rattle.arcs_groups.specs.Groups.{Opens}

-- t moves p in the direction d: it lowers p where d is 0, and raises p where d is above 0
unfoldable pub moves : Net → ℕ → ℕ → ℕ → Bool
moves N zero p t = ltb (output N p t) (input N p t)
moves N (suc d) p t = ltb (input N p t) (output N p t)

-- the entry of arc j, whose transition's arcs start with arc `from`: one more than each
abbrev pub entry_of : ℕ → ℕ → ℕ
entry_of j from = 65536 * suc from + suc j

-- e is the entry of the last group of parallel arcs, of the first i arcs, that are at p, go in the direction d and are of a transition that passes: of its first arc; or 0
pub record Ends (s : List ℕ) (h : Header) (passes : ℕ → Bool) (i d p e : ℕ) : Type 0 where
  pub within : e % 65536 ≤ i
  pub ends : e % 65536 ≡ 0 → e ≡ 0
  pub at : (j : ℕ) → e % 65536 ≡ suc j → place_at s h.arcstart j ≡ p
  pub goes : (j : ℕ) → e % 65536 ≡ suc j → direction_at s h.arcstart j ≡ d
  pub passes_it : (j : ℕ) → e % 65536 ≡ suc j → T (passes (transition_at s h.arcstart j))
  pub begun : (j : ℕ) → e % 65536 ≡ suc j → 0 < e / 65536
  pub first : (j : ℕ) → e % 65536 ≡ suc j → Split s h.arcstart h.arcs (2 * transition_at s h.arcstart j) (e / 65536 - 1)
  pub opens : (j : ℕ) → e % 65536 ≡ suc j → Opens s h.arcstart j
  pub rest : (k : ℕ) → e % 65536 ≤ k → k < i → place_at s h.arcstart k ≡ p → direction_at s h.arcstart k ≡ d → T (passes (transition_at s h.arcstart k))
      → (0 < e % 65536) × (transition_at s h.arcstart k ≡ transition_at s h.arcstart (e % 65536 - 1))

-- the same of the transitions that move p so
abbrev pub Last : List ℕ → Header → ℕ → ℕ → ℕ → ℕ → Type 0
Last s h i d p e = Ends s h (moves (net_from s h) d p) i d p e

-- head leads to the last group of each place and direction, next from a group to the one before it
pub record Rows (s : List ℕ) (h : Header) (head next : List ℕ) : Type 0 where
  pub head_long : 2 * h.places ≤ length head
  pub next_long : h.arcs ≤ length next
  pub heads : (d p : ℕ) → d ≤ 1 → p < h.places → Last s h h.arcs d p (get_or head (2 * p + d) 0)
  pub nexts : (j : ℕ) → j < h.arcs → Opens s h.arcstart j → T (moves (net_from s h) (direction_at s h.arcstart j) (place_at s h.arcstart j) (transition_at s h.arcstart j))
      → Last s h j (direction_at s h.arcstart j) (place_at s h.arcstart j) (get_or next j 0)
