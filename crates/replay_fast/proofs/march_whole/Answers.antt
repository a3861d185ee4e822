use Rattle.std.proofs.Common.{◌<◌, arith, rules}
use Rattle.net.proofs.Uncapped.{within_caps}
use Rattle.replay_fast.proofs.Marching.{step_by_slots}
use Rattle.replay_fast.proofs.march_whole.Goals as goal
use Rattle.replay_fast.proofs.march_whole.Goals.{then-this-ne0, else-this-ne0}

-- The first k firings are done (`Underway`).

pub shift_capped-signs-requires-clause-movable : goal.shift_capped-signs-requires-clause-movable
shift_capped-signs-requires-clause-movable g c = (step_by_slots c.loop-k.invariant c.loop-k-test.true c.from-t.ensures c.requires.ready c.entry-from.ensures.0 c.entry-to.ensures.0).shifting

pub shift_joined-signs-requires-clause-movable : goal.shift_joined-signs-requires-clause-movable
shift_joined-signs-requires-clause-movable g c = (step_by_slots c.loop-k.invariant c.loop-k-test.true c.from-t.ensures c.requires.ready c.entry-from.ensures.0 c.entry-to.ensures.0).shifting

-- ---- a firing that is undone

pub back-requires-clause-movable : goal.back-requires-clause-movable
back-requires-clause-movable g c =
    let now = step_by_slots c.loop-k.invariant c.loop-k-test.true c.from-t.ensures c.requires.ready c.entry-from.ensures.0 c.entry-to.ensures.0 in
    elim c.if-this-ne0.branch [
      | then-this-ne0 w ↦ rw w.marking-is (now.undoing _ _ w.shift_capped-signs.ensures.shifted)
      | else-this-ne0 w ↦ rw w.marking-is (now.undoing _ _ w.shift_joined-signs.ensures)
    ]

pub returns-then-signs-ge9223372036854775808 : goal.returns-then-signs-ge9223372036854775808
returns-then-signs-ge9223372036854775808 g c =
    let now = step_by_slots c.loop-k.invariant c.loop-k-test.true c.from-t.ensures c.requires.ready c.entry-from.ensures.0 c.entry-to.ensures.0 in
    elim c.if-this-ne0.branch [
      | then-this-ne0 w ↦ now.undone _ _ _ w.shift_capped-signs.ensures.shifted (rw w.marking-is at c.back.ensures)
      | else-this-ne0 w ↦ now.undone _ _ _ w.shift_joined-signs.ensures (rw w.marking-is at c.back.ensures)
    ]

-- ---- a firing that is done

pub loop-k-preserved : goal.loop-k-preserved
loop-k-preserved g c =
    let now = step_by_slots c.loop-k.invariant c.loop-k-test.true c.from-t.ensures c.requires.ready c.entry-from.ensures.0 c.entry-to.ensures.0 in
    elim c.if-this-ne0.branch [
      | then-this-ne0 w ↦
          let told = w.shift_capped-signs.ensures in
          let low : w.shift_capped-signs.result < 9223372036854775808 = omega (arith, w.signs-is, c.if-signs-ge9223372036854775808.false) in
          rw w.marking-is (now.fired _ _ told.shifted low (now.fits _ _ told.shifted low (told.roomy low)))
      | else-this-ne0 w ↦
          let low : w.shift_joined-signs.result < 9223372036854775808 = omega (arith, w.signs-is, c.if-signs-ge9223372036854775808.false) in
          let plain = c.requires.uncapped (search rules) in
          rw w.marking-is (now.fired _ _ w.shift_joined-signs.ensures low (within_caps _ plain _))
    ]
