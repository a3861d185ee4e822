use Rattle.cut_search.proofs.Needed.{Needed}
use Rattle.cut_search.proofs.keep_needed.Given as goal

abbrev pub invariant-loop-j : goal.invariant-loop-j
invariant-loop-j l = Needed l.file l.h l.from l.t l.j l.marks l.m l.initial.places l.places
