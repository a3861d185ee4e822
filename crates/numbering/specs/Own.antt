-- A table from the plan's numbers to a slice's own: "the slice's number for each .. among the origins" (document 01, "The checker").
use Rattle.std.specs.Prelude.{ℕ, suc, ◌+◌, ◌*◌, ◌<◌, ◌≤◌, true, false, List, ◌≡◌, length, get_or}
use Rattle.net.specs.Numbers.{among, position}
use Rattle.file.specs.Layout.{words_from}
use Rattle.file.specs.Facts.{RisingFrom}

-- one more than the place where x stands in the list; 0 where it does not stand there
unfoldable pub own_entry : List ℕ → ℕ → ℕ
own_entry os x = elim (among x os) [ true ↦ suc (position x os) | false ↦ 0 ]

-- the table has that entry for each number that it reaches
pub record Own (os table : List ℕ) : Type 0 where
  pub at : (x : ℕ) → x < length table → get_or table x 0 ≡ own_entry os x

-- `count` origins stand in the file from `start` on, "strictly rising"
pub record Origins (s : List ℕ) (start count : ℕ) : Type 0 where
  pub fit : start + 2 * count ≤ length s
  pub few : count ≤ 1024
  pub rise : RisingFrom 0 (words_from s start count)
