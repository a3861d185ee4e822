use Rattle.replay_fast.proofs.Moving.{Moving}
use Rattle.replay_fast.proofs.back_read.Given as goal

abbrev pub invariant-loop-j : goal.invariant-loop-j
invariant-loop-j l = Moving 1 0 l.file l.start l.from l.j l.initial.marking l.marking
