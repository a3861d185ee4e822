use Prim.Native.Nat.{◌*◌, ◌≤◌, ◌<◌}
use mathlib.Core.Path.{sym, subst}
use native.Mathlib.Omega.{arith}
use lib.ListN.{length, get_or}
use Rattle.net.specs.declared.Arc.{Arc}
use Rattle.together.proofs.Inputs.{enough, takes_more}
use Rattle.together.proofs.take.Goals as goal
use Rattle.together.proofs.take.Goals.{After-arc-a}

-- arc j's place is one of the marking's, and has what the arc wants k times
inside : (c : After-arc-a) → c.arc-a.result.place < length c.args.marking.now
inside c = subst (λ (a : Arc). a.place < length c.args.marking.now) (sym c.arc-a.ensures.0) (c.requires.run.places c.loop-j.j c.loop-j-test.true)

wanted : (c : After-arc-a) → c.args.k * c.arc-a.result.weight ≤ get_or c.loop-j.marking c.arc-a.result.place 0
wanted c = enough c.loop-j.invariant (omega arith) _ c.arc-a.ensures.0 _ c.loop-j-test.true c.requires.by_index

pub overflow_mul-marking : goal.overflow_mul-marking
overflow_mul-marking c = omega (arith, wanted (goal.at.overflow_mul-marking c).After-arc-a)

pub overflow_sub-marking : goal.overflow_sub-marking
overflow_sub-marking c = wanted (goal.at.overflow_sub-marking c).After-arc-a

pub loop-j-preserved : goal.loop-j-preserved
loop-j-preserved c =
    let a = (goal.at.loop-j-preserved c).After-arc-a in
    takes_more c.loop-j.invariant (omega arith) _ c.arc-a.ensures.0 (inside a) (wanted a)
