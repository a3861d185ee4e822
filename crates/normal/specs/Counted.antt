-- The arcs that are left once parallel ones are joined, and why a plan's normal form is not written once the plan was read.
use Rattle.std.specs.Prelude.{ℕ, zero, suc, Result, Ok, Err}
use Rattle.refusals.specs.declared.Refusal.{Refusal}
use Rattle.refusals.specs.declared.Refusal.TheVariants.{Weight}
use Rattle.net.specs.Net.{Net}
use Rattle.net.specs.Normal.{joined, normal_of}
use Rattle.file_words.specs.Refusal.{or_else}
use Rattle.file_writing.specs.Writing.{plan_bytes}
use Rattle.promise.specs.Normal.{weights_refusal}
use Rattle.plan_put.specs.Told.{room_refusal}

-- how many there are, where no weight is refused
abbrev pub heavy_or : ℕ → ℕ → Result ℕ Refusal
heavy_or zero n = Ok n
heavy_or (suc k) n = Err Weight

-- 25, then 13, for a buffer of `room` bytes
abbrev pub lent_refusal : Net → ℕ → ℕ
lent_refusal N room = or_else (weights_refusal (joined N.arcs)) (room_refusal room (plan_bytes 2 (normal_of N)))
