-- What a replay answers in document 01's numbers, and why it is refused once its file was read.
use Rattle.std.specs.Prelude.{ℕ, true, false, List, ◌≡◌, ltb, Result, Ok, Err}
use Rattle.refusals.specs.Numbers.{number}
use Rattle.refusals.specs.declared.Refusal.{Refusal}
use Rattle.file_words.specs.Refusal.{refuse, or_else}
use Rattle.file_header.specs.declared.Header.{Header}
use Rattle.promise.specs.Firing.{ReplayAnswer, list_refusal}
use Rattle.replay.specs.declared.Outcome.{Outcome}
use Rattle.replay.specs.declared.Outcome.TheVariants.{Fired, Short, Full}

-- document 01's number and values for each answer
abbrev pub outcome_numbers : Result Outcome Refusal → ReplayAnswer
outcome_numbers (Ok Fired) = record { refused = false; refusal = 0; stuck = false; full = false; index = 0; place = 0; amount = 0 }
outcome_numbers (Ok (Short i p n)) = record { refused = false; refusal = 0; stuck = true; full = false; index = i; place = p; amount = n }
outcome_numbers (Ok (Full i p n)) = record { refused = false; refusal = 0; stuck = true; full = true; index = i; place = p; amount = n }
outcome_numbers (Err e) = record { refused = true; refusal = number e; stuck = false; full = false; index = 0; place = 0; amount = 0 }

-- the same of an end, which is no refusal
abbrev pub ended_numbers : Outcome → ReplayAnswer
ended_numbers o = outcome_numbers (Ok o)

-- no two answers have the same numbers: an equation of numbers is one of answers
abbrev pub ToldApart : Type 0
ToldApart = (a b : Result Outcome Refusal) → outcome_numbers a ≡ outcome_numbers b → a ≡ b

-- "list, buffer": 11, 12, then 13 "shorter than P entries"
abbrev pub held_back : Header → List ℕ → ℕ → ℕ
held_back h list room = or_else (list_refusal h.transitions list) (refuse (ltb room h.places) 13 0)
