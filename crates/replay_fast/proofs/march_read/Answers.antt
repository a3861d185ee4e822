use Rattle.net.proofs.Uncapped.{within_caps}
use Rattle.replay_fast.proofs.Marching.{step_by_transitions}
use Rattle.replay_fast.proofs.march_read.Goals as goal

-- The first k firings are done (`Underway`).

pub shift_read-requires : goal.shift_read-requires
shift_read-requires c = (step_by_transitions c.loop-k.invariant c.loop-k-test.true c.from-t.ensures c.requires.indexed c.entry-from.ensures.0 c.entry-to.ensures.0).shifting

-- ---- a firing that is undone

pub back_read-requires : goal.back_read-requires
back_read-requires c = (step_by_transitions c.loop-k.invariant c.loop-k-test.true c.from-t.ensures c.requires.indexed c.entry-from.ensures.0 c.entry-to.ensures.0).undoing _ _ c.shift_read.ensures

pub returns-then-shift_read-ge9223372036854775808 : goal.returns-then-shift_read-ge9223372036854775808
returns-then-shift_read-ge9223372036854775808 c = (step_by_transitions c.loop-k.invariant c.loop-k-test.true c.from-t.ensures c.requires.indexed c.entry-from.ensures.0 c.entry-to.ensures.0).undone _ _ _ c.shift_read.ensures c.back_read.ensures

-- ---- a firing that is done

pub loop-k-preserved : goal.loop-k-preserved
loop-k-preserved c = (step_by_transitions c.loop-k.invariant c.loop-k-test.true c.from-t.ensures c.requires.indexed c.entry-from.ensures.0 c.entry-to.ensures.0).fired _ _ c.shift_read.ensures c.if-shift_read-ge9223372036854775808.false (within_caps _ c.requires.indexed.uncapped _)
