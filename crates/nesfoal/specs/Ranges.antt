-- The answer of `range` as one number, for C, and how a C program reads it.
use Rattle.std.specs.Prelude.{ℕ, Bool, true, false, not, ◌||◌, eqb}
use Rattle.net.specs.Net.{counted}
use Rattle.promise.specs.Range.{RangeAnswer}

abbrev not_all_or : Bool → Bool → ℕ → ℕ
not_all_or true never n = 100
not_all_or false true n = 101
not_all_or false false n = n

-- 0 where every marking in the range fires the list, 100 where some do but not all, 101 where none does, else the number of a refusal
abbrev pub range_code : RangeAnswer → ℕ
range_code a = not_all_or a.partly a.never a.refusal

-- by the number returned: 0, 100 and 101 are no refusals
abbrev turns_back : ℕ → Bool
turns_back r = not (eqb r 0 || eqb r 100 || eqb r 101)

abbrev pub range_read : ℕ → RangeAnswer
range_read r = record { refused = turns_back r; refusal = counted (turns_back r) r; every = eqb r 0; partly = eqb r 100; never = eqb r 101 }
