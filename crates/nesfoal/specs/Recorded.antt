-- The answer of the run cut as a C program reads it.
use Rattle.std.specs.Prelude.{ℕ, not, eqb}
use Rattle.promise.specs.RunCut.{RunAnswer}

-- by the number returned, 0 or that of a refusal, and by the numbers that the call wrote
abbrev pub run_read : ℕ → ℕ → ℕ → ℕ → ℕ → ℕ → ℕ → ℕ → RunAnswer
run_read r n p t c i q m = record { refused = not (eqb r 0); refusal = r; length = n; places = p; transitions = t; count = c; stuck = eqb r 14; index = i; place = q; amount = m }
