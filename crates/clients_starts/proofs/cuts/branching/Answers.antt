use mathlib.Core.Path.{sym}
use lib.ListN.{length}
use lib.Seq.{length-take-le}
use Rattle.clients_starts.proofs.Accepting.{branching-refused, branching_room, branching-accepted}
use Rattle.clients_starts.proofs.cuts.branching.Goals as goal

pub returns-in_default : goal.returns-in_default
returns-in_default c =
    let s = c.args in
    λ z. branching-refused s.plan.now s.start.now s.criterion.now (length s.buffer.now) c.branching_from-done.ensures.answer c.in_default.is z

-- what was written is a part of the buffer
pub slice_bounds-check_from-end : goal.slice_bounds-check_from-end
slice_bounds-check_from-end c =
    let s = c.args in
    branching_room s.plan.now s.start.now s.criterion.now s.buffer.now c.branching_from-done.ensures.answer c.branching_from-done.ensures.buffer c.in-Ok.is

pub slice_bounds-check_from-end-2 : goal.slice_bounds-check_from-end-2
slice_bounds-check_from-end-2 c =
    let s = c.args in
    sym (length-take-le _ _ (branching_room s.plan.now s.start.now s.criterion.now s.buffer.now c.branching_from-done.ensures.answer c.branching_from-done.ensures.buffer c.in-Ok.is))

pub returns : goal.returns
returns c =
    let s = c.args in
    λ z. branching-accepted s.plan.now s.start.now s.criterion.now c.in-Ok.is c.code.ensures c.branching_from-done.ensures.exact c.check_from-verdict.ensures.answer
