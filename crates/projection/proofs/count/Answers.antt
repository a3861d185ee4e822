use Rattle.projection.proofs.Choices.{counted_none, counted_next}
use Rattle.projection.proofs.count.Goals as goal

pub loop-t-init : goal.loop-t-init
loop-t-init c = counted_none c.requires

pub loop-t-preserved : goal.loop-t-preserved
loop-t-preserved c = counted_next c.loop-t.invariant c.loop-t-test.true (rw c.from.ensures at c.share-n.ensures)
