use Rattle.std.proofs.Common.{leb}
use Rattle.inputs_lists.proofs.Prefixes.{any_none, any_next}
use Rattle.inputs_lists.proofs.above.Goals as goal

pub loop-x-init : goal.loop-x-init
loop-x-init c = any_none (leb _) c.args.list.now

pub loop-x-preserved : goal.loop-x-preserved
loop-x-preserved c = rw (any_next (leb _) _ _ c.loop-x-test.true, ← c.loop-x.invariant)
