use native.Mathlib.Omega.{arith}
use Rattle.rules_effects.proofs.Columns.{marked-none, marked_more}
use Rattle.rules_effects.proofs.limit_criterion.Goals as goal

pub loop-place-init : goal.loop-place-init
loop-place-init c = marked-none _ _

pub loop-place-preserved : goal.loop-place-preserved
loop-place-preserved c = marked_more _ _ _ _ c.loop-place.invariant c.loop-place-test.true _ c.from.ensures (omega (arith, c.from.ensures, c.requires c.loop-place.place-index c.loop-place-test.true))
