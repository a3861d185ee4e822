use Rattle.arcs_effect.proofs.Places.{Summed}
use Rattle.arcs_effect.proofs.weight.Given as goal

abbrev pub invariant-loop-j : goal.invariant-loop-j
invariant-loop-j l = Summed l.file l.start l.from l.to l.place l.sum l.j
