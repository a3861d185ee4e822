-- The answer of `replay` as one number, for C.
use Rattle.std.specs.Prelude.{ℕ, Bool, true, false}
use Rattle.promise.specs.Firing.{ReplayAnswer}

abbrev stuck_or : Bool → Bool → ℕ → ℕ
stuck_or true true n = 101
stuck_or true false n = 100
stuck_or false full n = n

-- 0 where all fired, 100 where the list sticks on a place that is short, 101 on one that is full, else the number of a refusal
abbrev pub replay_code : ReplayAnswer → ℕ
replay_code a = stuck_or a.stuck a.full a.refusal
