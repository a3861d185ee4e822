-- The answers of `range` and `replay`, compared.
use Rattle.std.specs.Prelude.{ℕ, Bool, true, false, not, ◌||◌, ◌&&◌}
use Rattle.promise.specs.Range.{RangeAnswer}

abbrev pub case_by : Bool → Bool → Bool → ℕ
case_by true partly never = 1
case_by false true never = 2
case_by false false true = 4
case_by false false false = 0

-- 1 for every marking in the range, 2 for some but not all, 4 for none, 0 where the call is refused
abbrev pub case_of : RangeAnswer → ℕ
case_of a = case_by a.every a.partly a.never

-- by whether `range` and `replay` are refused, whether every marking in the range fires the list, and whether its replay sticks
abbrev pub agreeing : Bool → Bool → Bool → Bool → Bool
agreeing refused refused' every stuck = (refused || refused') || ((every && not stuck) || (not every && stuck))
