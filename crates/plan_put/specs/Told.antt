-- What a call that writes a plan answers and leaves in the buffer, once nothing is refused but for room.
use Rattle.std.specs.Prelude.{ℕ, true, false, List, ◌≡◌, ltb, length, Result, Ok, Err}
use Rattle.refusals.specs.Numbers.{number}
use Rattle.refusals.specs.declared.Refusal.{Refusal}
use Rattle.file_words.specs.Refusal.{refuse}
use Rattle.promise.specs.Calls.{written}
use Rattle.promise.specs.Normal.{FileAnswer, file_answer}

-- the number and values of each answer: the file's length, or a refusal
abbrev pub file_numbers : Result ℕ Refusal → FileAnswer
file_numbers (Ok n) = record { refused = false; refusal = 0; length = n }
file_numbers (Err e) = record { refused = true; refusal = number e; length = 0 }

-- no two answers have the same numbers: an equation of numbers is one of answers
abbrev pub ToldApart : Type 0
ToldApart = (a b : Result ℕ Refusal) → file_numbers a ≡ file_numbers b → a ≡ b

-- 13: the buffer of `room` bytes is shorter than the file
abbrev pub room_refusal : ℕ → List ℕ → ℕ
room_refusal room file = refuse (ltb room (length file)) 13 0

-- the answer and the buffer of a call that is refused with that number, or else writes `file`; the buffer is `entry` before it and `exit` after it
pub record Answers (refusal : ℕ) (file entry exit : List ℕ) (r : Result ℕ Refusal) : Type 0 where
  pub answer : file_numbers r ≡ file_answer refusal (length file)
  pub buffer : exit ≡ written refusal file entry
