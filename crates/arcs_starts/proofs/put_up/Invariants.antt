use Rattle.arcs_starts.proofs.Filling.{Putting}
use Rattle.arcs_starts.proofs.put_up.Given as goal

abbrev pub invariant-loop-k : goal.invariant-loop-k
invariant-loop-k l = Putting l.next l.last l.value l.initial.table l.table l.k
