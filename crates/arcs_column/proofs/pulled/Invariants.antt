use Rattle.arcs_column.proofs.Looking.{Looked}
use Rattle.arcs_column.proofs.pulled.Given as goal

abbrev pub invariant-loop-j : goal.invariant-loop-j
invariant-loop-j l = Looked l.file l.start l.from l.limit l.initial.column l.j l.column l.found
