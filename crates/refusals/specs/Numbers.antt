-- The numbers of refusals: "the number of the first rule broken"; 0 where nothing is refused.
use Rattle.std.specs.Prelude.{ℕ, Result, Ok, Err}
use Rattle.refusals.specs.declared.Refusal.{Refusal}
use Rattle.refusals.specs.declared.Refusal.TheVariants.{Length, Letters, Kind, Counts, Body, Arc, Order, Origins, Criterion, Place, List, Transition, Buffer, Stuck, Marking, Cap, Capped, Profile, Id, Number, Upper, Entries, Stranded, Tokens, Weight}

abbrev pub number : Refusal → ℕ
number Length = 1
number Letters = 2
number Kind = 3
number Counts = 4
number Body = 5
number Arc = 6
number Order = 7
number Origins = 8
number Criterion = 9
number Place = 10
number List = 11
number Transition = 12
number Buffer = 13
number Stuck = 14
number Marking = 15
number Cap = 16
number Capped = 17
number Profile = 18
number Id = 19
number Number = 20
number Upper = 21
number Entries = 22
number Stranded = 23
number Tokens = 24
number Weight = 25

-- 0 where nothing is refused
abbrev pub refusal_number : {A : Type 0} → Result A Refusal → ℕ
refusal_number (Ok a) = 0
refusal_number (Err e) = number e

-- the same answer, with a refusal by its number
abbrev pub told : {A : Type 0} → Result A Refusal → Result A ℕ
told (Ok a) = Ok a
told (Err e) = Err (number e)
