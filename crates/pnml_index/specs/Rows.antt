-- Rows of ids with one sum: for callers, not for a reader of the contracts.
use Rattle.std.specs.Prelude.{ℕ, suc, ◌+◌, ◌*◌, ◌%◌, ◌≤◌, ◌<◌, ◌≡◌, true, false, Option, Some, None, List, [], ◌∷◌, length, get_or}
use Rattle.pnml_page.specs.Meant.{id_at}
use Rattle.pnml_names.specs.Names.{same_id, position, repeats}
use Rattle.pnml_names.specs.Tables.{ids_in}

-- the sum of an id's characters, after those that gave h
unfoldable pub sum_of : ℕ → List ℕ → ℕ
sum_of h [] = h
sum_of h (b ∷ x) = sum_of ((31 * h + b) % 2048) x

-- a row from an entry on has id j
pub data Has (next : List ℕ) : ℕ → ℕ → Type 0 where
  here : {j : ℕ} → Has next (suc j) j
  later : {i j : ℕ} → Has next (get_or next i 0) j → Has next (suc i) j

-- a row from an entry on stays within the table, and falls
pub record Row (names next : List ℕ) (from : ℕ) : Type 0 where
  pub falls : (j : ℕ) → get_or next j 0 ≤ j
  pub room : length names ≤ length next
  pub within : from ≤ length names

-- the number of the id at a position in a row, where it is there
abbrev pub Sought : List ℕ → ℕ → List ℕ → List ℕ → ℕ → Option ℕ → Type 0
Sought s a names next from (Some r) = (r < length names) × (r < from) × (same_id (id_at s a) (id_at s (get_or names r 0)) ≡ true)
Sought s a names next from None = (j : ℕ) → Has next from j → same_id (id_at s a) (id_at s (get_or names j 0)) ≡ false

-- the number of the id at a position in a table, where it is there
abbrev pub Placed : List ℕ → ℕ → List ℕ → Option ℕ → Type 0
Placed s a names (Some r) = (r ≡ position (id_at s a) (ids_in s names)) × (r < length names)
Placed s a names None = length names ≡ position (id_at s a) (ids_in s names)

-- tables with no rows yet
pub record Blank (names head next : List ℕ) : Type 0 where
  pub few : length names < 65536
  pub heads : 2048 ≤ length head
  pub room : length names ≤ length next
  pub no_heads : (h : ℕ) → get_or head h 0 ≡ 0
  pub no_rows : (j : ℕ) → get_or next j 0 ≡ 0

-- each id is in its row, and no id stands twice
pub record Indexed (s names head next : List ℕ) : Type 0 where
  pub rows : (h : ℕ) → Row names next (get_or head h 0)
  pub heads : 2048 ≤ length head
  pub all : (j : ℕ) → j < length names → Has next (get_or head (sum_of 0 (id_at s (get_or names j 0))) 0) j
  pub once : repeats (ids_in s names) ≡ false
