use Rattle.carry.proofs.Sums.{Adding}
use Rattle.carry.proofs.add_up.Given as goal

abbrev pub invariant-loop-i : goal.invariant-loop-i
invariant-loop-i l = Adding l.table l.running l.initial.sums l.sums l.i
