use Rattle.cut_search.proofs.Steps.{Inputs}
use Rattle.cut_search.proofs.keep_inputs.Given as goal

abbrev pub invariant-loop-j : goal.invariant-loop-j
invariant-loop-j l = Inputs l.file l.start l.fn.h.arcs l.from l.t l.j l.marks l.m l.initial.places l.places
