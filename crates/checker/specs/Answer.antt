-- "The verdict is a record: accepted, or the broken rule with its number" (document 01, "The checker"), in numbers.
use Rattle.std.specs.Prelude.{◌≡◌, true, Result, Ok, Err}
use Rattle.refusals.specs.Numbers.{number}
use Rattle.refusals.specs.declared.Refusal.{Refusal}
use Rattle.promise.specs.Calls.{Checked}
use Rattle.check_rules.specs.Answer.{outcome_numbers}
use Rattle.checker.specs.declared.Verdict.{Verdict}

-- the verdict in numbers
abbrev pub verdict_numbers : Verdict → Checked
verdict_numbers v = outcome_numbers v.outcome

-- what a check answers in numbers: the verdict, or "1 to 13 a refusal" (16 too: document 02, A9)
abbrev pub numbers_of : Result Verdict Refusal → Checked
numbers_of (Ok v) = verdict_numbers v
numbers_of (Err e) = record { refused = true; code = number e; number = 0 }

-- no two answers have the same numbers: an equation of numbers is one of answers
abbrev pub ToldApart : Type 0
ToldApart = (a b : Result Verdict Refusal) → numbers_of a ≡ numbers_of b → a ≡ b
