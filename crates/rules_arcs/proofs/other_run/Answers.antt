use Rattle.rules_arcs.proofs.Walking.{walked_next, walked_differs, walked_end}
use Rattle.rules_arcs.proofs.other_run.Goals as goal

pub returns-then-upto-next : goal.returns-then-upto-next
returns-then-upto-next c = walked_differs c.args.plan.now _ _ _ c.args.slice.now _ _ _ _ _ c.loop-j.invariant _ c.loop-j-test.true c.step-next.ensures c.if-upto-next.true

pub loop-j-preserved : goal.loop-j-preserved
loop-j-preserved c = walked_next c.args.plan.now _ _ _ c.args.slice.now _ _ _ _ _ c.loop-j.invariant _ c.loop-j-test.true c.step-next.ensures c.if-upto-next.false

pub returns : goal.returns
returns c = walked_end c.args.plan.now _ _ _ c.args.slice.now _ _ _ _ _ c.loop-j.invariant c.loop-j-test.false
