use Rattle.projection.proofs.Choices.{Counted}
use Rattle.projection.proofs.count.Given as goal

abbrev pub invariant-loop-t : goal.invariant-loop-t
invariant-loop-t l = Counted l.table l.list l.n l.t-index
