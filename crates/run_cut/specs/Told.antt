-- What a run cut answers in numbers, and what it leaves in the two lent buffers, once its plan was read and its criterion passed.
use Rattle.std.specs.Prelude.{ℕ, true, false, List, ◌≡◌, Result, Ok, Err}
use Rattle.refusals.specs.Numbers.{number}
use Rattle.refusals.specs.declared.Refusal.{Refusal}
use Rattle.net.specs.Run.{fed, run_cut}
use Rattle.file.specs.Layout.{net_from}
use Rattle.file_writing.specs.Writing.{slice_bytes}
use Rattle.file_header.specs.declared.Header.{Header}
use Rattle.promise.specs.Calls.{written}
use Rattle.promise.specs.Firing.{list_refusal}
use Rattle.promise.specs.RunCut.{RunAnswer, run_written, run_stuck, run_or, run_outcome}
use Rattle.run_cut.specs.declared.RunCut.{RunCut}
use Rattle.run_cut.specs.declared.RunCut.TheVariants.{Written, Sticks}

-- the number and values of each answer
abbrev pub run_numbers : Result RunCut Refusal → RunAnswer
run_numbers (Ok (Written n p t c)) = run_written n p t c
run_numbers (Ok (Sticks i p n)) = run_stuck i p n
run_numbers (Err e) = record { refused = true; refusal = number e; length = 0; places = 0; transitions = 0; count = 0; stuck = false; index = 0; place = 0; amount = 0 }

-- no two answers have the same numbers: an equation of numbers is one of answers
abbrev pub ToldApart : Type 0
ToldApart = (a b : Result RunCut Refusal) → run_numbers a ≡ run_numbers b → a ≡ b

-- the list, then what the net says
abbrev pub answer_to : List ℕ → Header → List ℕ → List ℕ → ℕ → ℕ → RunAnswer
answer_to s h Q list room entries = run_or (list_refusal h.transitions list) (run_outcome h.edition (net_from s h) Q list room entries)

-- the buffers are `entry` and `slots` before, `exit` and `positions` after
pub record Answers (s : List ℕ) (h : Header) (Q list : List ℕ) (told : RunAnswer) (entry exit slots positions : List ℕ) (r : Result RunCut Refusal) : Type 0 where
  pub answer : run_numbers r ≡ told
  pub buffer : exit ≡ written told.refusal (slice_bytes h.edition (run_cut (net_from s h) Q list)) entry
  pub second : positions ≡ written told.refusal (fed (net_from s h) Q list).positions slots
