use Rattle.arcs_effect.proofs.Places.{summed_start, summed_next, summed_past, summed_end}
use Rattle.arcs_effect.proofs.weight.Goals as goal

pub loop-j-init : goal.loop-j-init
loop-j-init c = summed_start c.requires c.place_from-first.ensures

pub returns-then-a-place : goal.returns-then-a-place
returns-then-a-place c = summed_past c.loop-j.invariant c.arc-a.ensures.0 c.if-a-place.true c.loop-j-test.true

pub loop-j-preserved : goal.loop-j-preserved
loop-j-preserved c = summed_next c.loop-j.invariant c.arc-a.ensures.0 c.if-a-place.false c.arc-a.ensures.1.weight c.loop-j-test.true

pub returns : goal.returns
returns c = summed_end c.loop-j.invariant c.loop-j-test.false
