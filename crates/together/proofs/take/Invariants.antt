use Rattle.together.specs.Inputs.{TakesTimes}
use Rattle.together.proofs.take.Given as goal

-- the weights of the arcs passed are gone, k times each
abbrev pub invariant-loop-j : goal.invariant-loop-j
invariant-loop-j l = TakesTimes l.file l.start l.from l.j l.k l.initial.marking l.marking
