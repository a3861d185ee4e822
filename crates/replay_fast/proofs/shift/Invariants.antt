use Rattle.std.proofs.Common.{◌≡◌}
use Rattle.replay_fast.proofs.Moving.{Shifting}
use Rattle.replay_fast.proofs.shift.Given as goal

abbrev pub invariant-loop-j : goal.invariant-loop-j
invariant-loop-j l = (l.done ≡ l.j) × Shifting l.file l.fn.h.arcstart l.from l.j l.initial.marking l.marking 0
