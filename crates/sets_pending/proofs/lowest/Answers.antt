use Rattle.sets_pending.proofs.Laws.{lowest_at, marks_less, marks_fewer}
use Rattle.sets_pending.proofs.lowest.Goals as goal

pub returns-in-Some-lowest_bit : goal.returns-in-Some-lowest_bit
returns-in-Some-lowest_bit c = lowest_at _ _ c.requires.0 _ c.loop-i.invariant _ c.in-Some.ensures _ c.in-Some-lowest_bit.ensures

pub loop-i-smaller : goal.loop-i-smaller
loop-i-smaller c = marks_fewer _ _ c.requires.0 _ c.loop-i.invariant _ c.in-Some.ensures c.in_default-lowest_bit.ensures _ c.without.ensures

pub loop-i-preserved : goal.loop-i-preserved
loop-i-preserved c = marks_less _ _ c.requires.0 _ c.loop-i.invariant _ c.in-Some.ensures c.in_default-lowest_bit.ensures _ c.without.ensures
