use lib.ListN.{get_or}
use Rattle.slice_arcs.proofs.Steps.{next-bytes, none_left, no_bytes}
use Rattle.slice_arcs.proofs.Writing.{writing_as, writing_arc, written}
use Rattle.slice_arcs.proofs.write_arcs.Goals as goal

pub loop-j-preserved : goal.loop-j-preserved
loop-j-preserved c =
    let arc = c.arc-a.result in
    let at = c.loop-j in
    let args = c.args in
    let ps = args.places.now in
    let ts = args.transitions.now in
    let next = next-bytes args.plan.now args.start ps ts at.j args.count arc c.arc-a.ensures.0 c.loop-j-test.true in
    writing_arc (get_or ts arc.transition 0) (get_or ps arc.place 0) arc _ _ _ (writing_as at.invariant next) c.write_arc-at.ensures.buffer_after c.write_arc-at.ensures.value

pub returns : goal.returns
returns c =
    let args = c.args in
    written (writing_as c.loop-j.invariant (no_bytes (none_left args.plan.now args.start args.places.now args.transitions.now c.loop-j.j args.count c.loop-j-test.false)))
