use Rattle.cut.proofs.Criterion.{number_below_lem, starting_none, starting_more, starting_end}
use Rattle.cut.proofs.keep_criterion.Goals as goal

pub loop-p-init : goal.loop-p-init
loop-p-init c = starting_none _

pub with-kept-requires : goal.with-kept-requires
with-kept-requires c = number_below_lem _ _ c.requires c.loop-p.p-index _ c.loop-p-test.true c.from.ensures

pub loop-p-preserved : goal.loop-p-preserved
loop-p-preserved c = starting_more _ _ _ _ _ c.loop-p.invariant c.loop-p-test.true c.from.ensures c.with-kept.ensures

pub returns : goal.returns
returns c = starting_end _ _ _ c.loop-p.invariant c.loop-p-test.false
