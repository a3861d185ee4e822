-- What `range` answers in numbers, and why it is refused once its plan was read.
use Rattle.std.specs.Prelude.{ℕ, true, false, List, ◌≡◌, ltb, Result, Ok, Err}
use Rattle.refusals.specs.Numbers.{number}
use Rattle.refusals.specs.declared.Refusal.{Refusal}
use Rattle.net.specs.Net.{has_caps}
use Rattle.file_words.specs.Refusal.{refuse, or_else}
use Rattle.file.specs.Layout.{net_from}
use Rattle.file_header.specs.declared.Header.{Header}
use Rattle.promise.specs.Firing.{list_refusal}
use Rattle.promise.specs.Range.{RangeAnswer, upper_wrong}
use Rattle.range.specs.declared.Range.{Range}
use Rattle.range.specs.declared.Range.TheVariants.{Every, Partly, Never}

-- the number and values of each answer
abbrev pub range_numbers : Result Range Refusal → RangeAnswer
range_numbers (Ok Every) = record { refused = false; refusal = 0; every = true; partly = false; never = false }
range_numbers (Ok Partly) = record { refused = false; refusal = 0; every = false; partly = true; never = false }
range_numbers (Ok Never) = record { refused = false; refusal = 0; every = false; partly = false; never = true }
range_numbers (Err e) = record { refused = true; refusal = number e; every = false; partly = false; never = false }

-- no two answers have the same numbers: an equation of numbers is one of answers
abbrev pub ToldApart : Type 0
ToldApart = (a b : Result Range Refusal) → range_numbers a ≡ range_numbers b → a ≡ b

-- 17, 11, 12, 21, then 13, for a lent list of `room` entries
abbrev pub held_back : List ℕ → Header → List ℕ → List ℕ → ℕ → ℕ
held_back s h list upper room =
    refuse (has_caps (net_from s h)) 17
    (or_else (list_refusal h.transitions list) (refuse (upper_wrong (net_from s h) upper) 21 (refuse (ltb room h.places) 13 0)))
