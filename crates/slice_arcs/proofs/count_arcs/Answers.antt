use mathlib.Core.Path.{ap}
use native.Mathlib.Omega.{arith}
use lib.ListN.{length}
use Rattle.slice_arcs.proofs.Steps.{next-count, none_left}
use Rattle.slice_arcs.proofs.count_arcs.Goals as goal

pub loop-j-preserved : goal.loop-j-preserved
loop-j-preserved c =
    let args = c.args in
    let at = c.loop-j in
    let next = next-count args.plan.now args.start args.places.now args.transitions.now at.j args.count c.arc-a.result c.arc-a.ensures.0 c.loop-j-test.true in
    (omega (arith, c.one_if_kept-total.ensures.0, at.invariant.0), omega (arith, at.invariant.1, c.one_if_kept-total.ensures.1 c.arc-a.result, next))

pub returns : goal.returns
returns c =
    let args = c.args in
    omega (arith, c.loop-j.invariant.1, ap length (none_left args.plan.now args.start args.places.now args.transitions.now c.loop-j.j args.count c.loop-j-test.false))
