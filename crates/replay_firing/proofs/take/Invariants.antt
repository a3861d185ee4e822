use Rattle.arcs_column.specs.Gain.{Takes}
use Rattle.replay_firing.proofs.take.Given as goal

abbrev pub invariant-loop-j : goal.invariant-loop-j
invariant-loop-j l = Takes l.file l.start l.from l.j l.initial.marking l.marking
