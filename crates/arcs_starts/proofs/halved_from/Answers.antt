use native.Mathlib.Omega.{arith}
use mathlib.Core.Path.{◌≡◌, ◌∙◌, ap}
use Prim.Native.Nat.{◌+◌, ◌/◌}
use Rattle.arcs_starts.specs.Table.{slot_of, slot_at}
use Rattle.arcs_starts.proofs.Halving.{halving_up, halving_down}
use Rattle.arcs_starts.proofs.halved_from.Goals as goal
use Rattle.arcs_starts.proofs.halved_from.Goals.{After-slot}

slot_is : (c : After-slot)
    → c.slot.result ≡ slot_at c.args.file.now c.args.start ((c.loop-low.low + c.loop-low.high) / 2)
unfolding slot_at
slot_is c = c.slot.ensures.0 ∙ ap slot_of c.arc-a.ensures.0

pub loop-low-preserved-then-slot-k : goal.loop-low-preserved-then-slot-k
loop-low-preserved-then-slot-k c = halving_up c.loop-low.invariant _ (omega (arith, c.loop-low-test.true)) (omega (arith, c.loop-low-test.true)) (slot_is (goal.at.loop-low-preserved-then-slot-k c).After-slot) c.if-slot-k.true

pub loop-low-preserved : goal.loop-low-preserved
loop-low-preserved c = halving_down c.loop-low.invariant _ (omega (arith, c.loop-low-test.true)) (omega (arith, c.loop-low-test.true)) (slot_is (goal.at.loop-low-preserved c).After-slot) c.if-slot-k.false
