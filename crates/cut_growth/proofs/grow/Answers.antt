use Rattle.cut_search.proofs.Closing.{going_none, going_more, going_end, left_less}
use Rattle.cut_growth.proofs.grow.Goals as goal

pub loop-m-init : goal.loop-m-init
loop-m-init c = going_none _ _ _ _ _ _ _ _ c.requires.1

pub loop-m-smaller : goal.loop-m-smaller
loop-m-smaller c = left_less _ _ _ _ _ _ _ _ _ _ _ _ c.loop-m-test.true c.add-m.ensures

pub loop-m-preserved : goal.loop-m-preserved
loop-m-preserved c = going_more _ _ _ _ _ _ _ _ _ _ _ c.loop-m.invariant _ _ _ _ c.add-m.ensures

pub returns : goal.returns
returns c = going_end _ _ _ _ _ _ _ _ _ _ _ c.loop-m.invariant c.requires.0.0 c.loop-m-test.false
