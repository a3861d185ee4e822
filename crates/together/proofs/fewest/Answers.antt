use native.Mathlib.Omega.{arith}
use Rattle.together.proofs.Weighing.{has_weight, shared, weigh}
use Rattle.together.proofs.fewest.Goals as goal

-- `least` is the most that the groups passed allow (`Weighed`).

-- a group has at least the weight of its first arc, and that is not 0
pub nonzero_div-here : goal.nonzero_div-here
nonzero_div-here c =
    let g = c.group-all.ensures in
    let o = c.requires.one_way in
    let l = c.loop-j-test.true in
    omega (arith, g.1, shared o c.loop-j.invariant l _ c.arc-a.ensures.0 g.0, has_weight o c.loop-j.invariant l _ c.arc-a.ensures.0)

pub loop-j-preserved : goal.loop-j-preserved
loop-j-preserved c = weigh c.requires.one_way c.loop-j.invariant c.loop-j-test.true _ c.arc-a.ensures.0 c.group-all.ensures.0 c.group-all.ensures.1 c.min-least.ensures
