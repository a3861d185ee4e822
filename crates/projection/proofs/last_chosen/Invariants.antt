use Rattle.projection.proofs.Choices.{Dropped}
use Rattle.projection.proofs.last_chosen.Given as goal

abbrev pub invariant-loop-i : goal.invariant-loop-i
invariant-loop-i l = Dropped l.table l.list l.i
