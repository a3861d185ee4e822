use mathlib.Core.Path.{refl}
use native.Mathlib.Omega.{arith}
use Rattle.normal.proofs.Turns.{arc-fits, writing_next, writing_all}
use Rattle.normal.proofs.write_arcs.Goals as goal

pub put_arc-requires-clause-at_in_bounds : goal.put_arc-requires-clause-at_in_bounds
put_arc-requires-clause-at_in_bounds c = arc-fits c.args.plan.now c.args.h c.group-all.ensures.0 c.loop-j.invariant c.requires.h_in_bounds

pub loop-j-preserved : goal.loop-j-preserved
loop-j-preserved c =
    let g = c.group-all.ensures in
    writing_next c.args.plan.now c.args.h g.0 c.loop-j.invariant _ _ c.arc-a.ensures.0 g.1 c.put_arc.ensures refl

pub returns : goal.returns
returns c = writing_all c.args.plan.now c.args.h c.loop-j.invariant (omega (arith, c.loop-j-test.false))
