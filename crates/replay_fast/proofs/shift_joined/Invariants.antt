use Rattle.replay_fast.proofs.Moving.{Holding}
use Rattle.replay_fast.proofs.shift_joined.Given as goal

abbrev pub invariant-loop-j : goal.invariant-loop-j
invariant-loop-j l = Holding l.file l.fn.h.arcstart l.from l.j l.initial.marking l.marking l.p l.value l.all
