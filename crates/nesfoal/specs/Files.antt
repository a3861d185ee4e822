-- The answer of a call that writes a plan as a C program reads it.
use Rattle.std.specs.Prelude.{ℕ, zero, suc, true, false}
use Rattle.promise.specs.Normal.{FileAnswer}

-- by the number returned, 0 or that of a refusal, and by the length that the call wrote
abbrev pub file_read : ℕ → ℕ → FileAnswer
file_read zero n = record { refused = false; refusal = 0; length = n }
file_read (suc k) n = record { refused = true; refusal = suc k; length = n }
