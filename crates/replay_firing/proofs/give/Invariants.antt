use Rattle.arcs_column.specs.Gain.{Gives}
use Rattle.replay_firing.proofs.give.Given as goal

abbrev pub invariant-loop-j : goal.invariant-loop-j
invariant-loop-j l = Gives l.file l.start l.from l.j l.initial.marking l.marking
