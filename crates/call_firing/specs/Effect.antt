-- The answer of `effect` in document 01's numbers.
use Rattle.std.specs.Prelude.{true, false, ◌≡◌, pos, ℤ, Result, Ok, Err}
use Rattle.refusals.specs.Numbers.{number}
use Rattle.refusals.specs.declared.Refusal.{Refusal}
use Rattle.promise.specs.Firing.{EffectAnswer}

-- the number and the effect of each case: "A refusal returns its number with zeros elsewhere"
abbrev pub change_numbers : Result ℤ Refusal → EffectAnswer
change_numbers (Ok n) = record { refused = false; refusal = 0; effect = n }
change_numbers (Err e) = record { refused = true; refusal = number e; effect = pos 0 }

-- no two answers have the same numbers: an equation of numbers is one of answers
abbrev pub ToldApart : Type 0
ToldApart = (a b : Result ℤ Refusal) → change_numbers a ≡ change_numbers b → a ≡ b
