use Rattle.std.proofs.Common.{◌<◌}
use Rattle.replay_fast.specs.Moves.{Roomy}
use Rattle.replay_fast.proofs.Moving.{Shifting}
use Rattle.replay_fast.proofs.shift_capped.Given as goal

abbrev pub invariant-loop-j : goal.invariant-loop-j
invariant-loop-j l = Shifting l.file l.h.arcstart l.from l.j l.initial.marking l.marking l.all × (l.all < 9223372036854775808 → Roomy l.file l.h l.from l.j l.marking)
