-- The answer of `together` as one number, for C, and as a C program reads it.
use Rattle.std.specs.Prelude.{ℕ, zero, suc, Bool, true, false, eqb}
use Rattle.promise.specs.Together.{TogetherAnswer}

abbrev unlimited_or : Bool → ℕ → ℕ
unlimited_or true n = 100
unlimited_or false n = n

-- 0 where there is a largest number of times, 100 where any number fits, else the number of a refusal
abbrev pub together_code : TogetherAnswer → ℕ
together_code a = unlimited_or a.unlimited a.refusal

abbrev read_as : Bool → ℕ → ℕ → TogetherAnswer
read_as true n k = record { refused = false; refusal = 0; unlimited = true; times = k }
read_as false zero k = record { refused = false; refusal = 0; unlimited = false; times = k }
read_as false (suc n) k = record { refused = true; refusal = suc n; unlimited = false; times = k }

-- by the number returned, 0, 100 or that of a refusal, and by the number of times that the call wrote
abbrev pub takings_read : ℕ → ℕ → TogetherAnswer
takings_read n k = read_as (eqb n 100) n k
