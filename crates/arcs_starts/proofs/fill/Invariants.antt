use Rattle.arcs_starts.proofs.Splits.{Filled}
use Rattle.arcs_starts.proofs.fill.Given as goal

abbrev pub invariant-loop-k : goal.invariant-loop-k
invariant-loop-k l = Filled l.initial.table l.most l.k l.table
