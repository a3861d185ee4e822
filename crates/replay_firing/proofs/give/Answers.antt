use Prim.Native.Nat.{◌<◌}
use mathlib.Core.Path.{sym, subst}
use native.Mathlib.Omega.{arith}
use lib.ListN.{length}
use Rattle.net.specs.declared.Arc.{Arc}
use Rattle.arcs_column.proofs.Sums.{fits, gives_more}
use Rattle.replay_firing.proofs.give.Goals as goal
use Rattle.replay_firing.proofs.give.Goals.{After-arc-a}

-- arc j's place is one of the marking's
inside : (c : After-arc-a) → c.arc-a.result.place < length c.args.marking.now
inside c =
    subst (λ (a : Arc). a.place < length c.args.marking.now) (sym c.arc-a.ensures.0)
    (c.requires.run.places c.loop-j.j c.loop-j-test.true)

pub overflow_add-marking : goal.overflow_add-marking
overflow_add-marking c = omega (arith, fits c.args.file.now _ _ _ _ _ _ c.arc-a.ensures.0 (inside (goal.at.overflow_add-marking c).After-arc-a) _ c.loop-j-test.true c.loop-j.invariant c.requires.by_index)

pub loop-j-preserved : goal.loop-j-preserved
loop-j-preserved c = gives_more c.args.file.now _ _ _ _ _ _ c.arc-a.ensures.0 (inside (goal.at.loop-j-preserved c).After-arc-a) c.loop-j.invariant
