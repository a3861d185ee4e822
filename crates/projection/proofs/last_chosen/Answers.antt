use Rattle.projection.proofs.Choices.{dropped_next}
use Rattle.projection.proofs.last_chosen.Goals as goal

pub loop-i-preserved : goal.loop-i-preserved
loop-i-preserved c = dropped_next c.loop-i.invariant c.loop-i-test.true (rw c.from-t.ensures at c.if-table-t-ne0.false)
