use native.Mathlib.Omega.{arith}
use mathlib.Core.Path.{◌≡◌, ◌∙◌, ap}
use Rattle.arcs_starts.specs.Table.{slot_of, slot_at}
use Rattle.arcs_starts.proofs.next_from.Goals as goal
use Rattle.arcs_starts.proofs.next_from.Goals.{After-slot}
use Rattle.std.proofs.Common.{below_more}

slot_is : (c : After-slot) → c.slot.result ≡ slot_at c.args.file.now c.args.start c.loop-low.low
unfolding slot_at
slot_is c = c.slot.ensures.0 ∙ ap slot_of c.arc-a.ensures.0

pub returns-then-k-slot : goal.returns-then-k-slot
returns-then-k-slot c = record {
  within = omega (arith, c.loop-low-test.true, c.min-near.ensures);
  below = c.loop-low.invariant;
  above = λ i l m. omega (arith, slot_is (goal.at.returns-then-k-slot c).After-slot, c.if-k-slot.true, c.requires.0.order c.loop-low.low i l m);
}

pub loop-low-preserved : goal.loop-low-preserved
loop-low-preserved c = below_more _ _ c.loop-low.invariant (omega (arith, slot_is (goal.at.loop-low-preserved c).After-slot, c.if-k-slot.false))
