use Rattle.std.proofs.Common.{arith}
use Rattle.net.proofs.Uncapped.{within_caps}
use Rattle.replay_fast.proofs.Marching.{step_by_slots}
use Rattle.replay_fast.proofs.march.Goals as goal

-- The first k firings are done (`Underway`).

pub shift-r-requires-clause-movable : goal.shift-r-requires-clause-movable
shift-r-requires-clause-movable c = (step_by_slots c.loop-k.invariant c.loop-k-test.true c.from-t.ensures c.requires.plain.ready c.entry-from.ensures.0 c.entry-to.ensures.0).shifting

-- ---- a firing that is undone

pub back-requires-clause-movable : goal.back-requires-clause-movable
back-requires-clause-movable c = let part = c.shift-r.ensures.part c.if-r-to.true in (step_by_slots c.loop-k.invariant c.loop-k-test.true c.from-t.ensures c.requires.plain.ready c.entry-from.ensures.0 c.entry-to.ensures.0).leaving _ part.0 c.if-r-to.true _ part.1

pub returns-then-r-to : goal.returns-then-r-to
returns-then-r-to c = (step_by_slots c.loop-k.invariant c.loop-k-test.true c.from-t.ensures c.requires.plain.ready c.entry-from.ensures.0 c.entry-to.ensures.0).left _ _ _ (c.shift-r.ensures.part c.if-r-to.true).1 c.back.ensures

-- ---- a firing that is done

pub loop-k-preserved : goal.loop-k-preserved
loop-k-preserved c = (step_by_slots c.loop-k.invariant c.loop-k-test.true c.from-t.ensures c.requires.plain.ready c.entry-from.ensures.0 c.entry-to.ensures.0).fired _ _ (c.shift-r.ensures.whole c.if-r-to.false) (omega arith) (within_caps _ c.requires.plain.uncapped _)
