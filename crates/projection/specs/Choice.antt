-- A projection by a table of own numbers: entry t is one more than the slice's number of t, or 0 where t is not among the origins.
use Rattle.std.specs.Prelude.{◌≡◌, ℕ, zero, suc, ◌-◌, ◌<◌, ◌≤◌, List, [], ◌∷◌, ◌++◌, length, take, ◌≢◌, slice_index}
use Rattle.net.specs.Slice.{Slice, project}

-- the number that an entry stands for, where it stands for one
abbrev pub chosen : ℕ → List ℕ
chosen zero = []
chosen (suc n) = n ∷ []

-- the numbers that a list's entries stand for, in order
unfoldable pub chosen_by : List ℕ → List ℕ → List ℕ
chosen_by table [] = []
chosen_by table (t ∷ ts) = chosen (slice_index table t) ++ chosen_by table ts

-- the table reaches each listed number, and the list is short enough to count
pub record Reached (table list : List ℕ) : Type 0 where
  pub short : length list ≤ 65535
  pub known : (i : ℕ) → i < length list → slice_index list i < length table

-- the first `end` of the list's numbers are all that entries stand for, and the last of them is one
pub record Last (table list : List ℕ) (end : ℕ) : Type 0 where
  pub within : end ≤ length list
  pub whole : chosen_by table (take end list) ≡ chosen_by table list
  pub chosen : 0 < end → slice_index table (slice_index list (end - 1)) ≢ 0

-- a table of `long` entries by which a list of numbers below that is projected to S
pub record Projects (S : Slice) (long : ℕ) (table : List ℕ) : Type 0 where
  pub length : length table ≡ long
  pub list : (list : List ℕ) → Reached table list → chosen_by table list ≡ project S list
