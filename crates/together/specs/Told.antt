-- What `together` answers in numbers, and why it is refused once its file was read.
use Rattle.std.specs.Prelude.{ℕ, true, false, not, Result, Ok, Err, ◌≡◌, eqb, ltb, leb}
use Rattle.refusals.specs.Numbers.{number}
use Rattle.refusals.specs.declared.Refusal.{Refusal}
use Rattle.file_words.specs.Refusal.{refuse}
use Rattle.file_header.specs.declared.Header.{Header}
use Rattle.promise.specs.Together.{TogetherAnswer}
use Rattle.together.specs.declared.Together.{Together}
use Rattle.together.specs.declared.Together.TheVariants.{Times, Unlimited}

-- the values of each answer
abbrev pub taken_numbers : Together → TogetherAnswer
taken_numbers (Times k) = record { refused = false; refusal = 0; unlimited = false; times = k }
taken_numbers Unlimited = record { refused = false; refusal = 0; unlimited = true; times = 0 }

-- and the number of each refusal
abbrev pub together_numbers : Result Together Refusal → TogetherAnswer
together_numbers (Ok r) = taken_numbers r
together_numbers (Err e) = record { refused = true; refusal = number e; unlimited = false; times = 0 }

-- no two answers have the same numbers: an equation of numbers is one of answers
abbrev pub ToldApart : Type 0
ToldApart = (a b : Result Together Refusal) → together_numbers a ≡ together_numbers b → a ≡ b

-- 12, 15, then 13, for a marking of `entries` entries and a list of `room` entries
abbrev pub held_back : Header → ℕ → ℕ → ℕ → ℕ
held_back h t entries room = refuse (leb h.transitions t) 12 (refuse (not (eqb entries h.places)) 15 (refuse (ltb room h.places) 13 0))
