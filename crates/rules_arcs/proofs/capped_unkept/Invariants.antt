use Rattle.rules_arcs.proofs.Lacking.{NoHit}
use Rattle.rules_arcs.proofs.capped_unkept.Given as goal

abbrev pub invariant-loop-j : goal.invariant-loop-j
invariant-loop-j l = NoHit l.plan l.hp l.from l.ownp l.j
