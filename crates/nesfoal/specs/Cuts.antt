-- The answer of a cut as a C program reads it.
use Rattle.std.specs.Prelude.{ℕ, zero, suc, true, false}
use Rattle.promise.specs.Calls.{CutAnswer}

-- by the number returned, 0 or that of a refusal, and by the length and the counts that the call wrote
abbrev pub cut_read : ℕ → ℕ → ℕ → ℕ → CutAnswer
cut_read zero n p t = record { refused = false; refusal = 0; length = n; places = p; transitions = t }
cut_read (suc k) n p t = record { refused = true; refusal = suc k; length = n; places = p; transitions = t }
