use Rattle.rules_arcs.proofs.Walking.{Walked}
use Rattle.rules_arcs.proofs.other_run.Given as goal

abbrev pub invariant-loop-j : goal.invariant-loop-j
invariant-loop-j l = Walked l.plan l.start l.from l.to l.slice l.hs l.first l.upto l.j l.k
