use Rattle.projection.proofs.Choices.{Written}
use Rattle.projection.proofs.write.Given as goal

abbrev pub invariant-loop-t : goal.invariant-loop-t
invariant-loop-t l = Written l.table l.list l.initial.out l.out l.end l.n l.t-index
