use mathlib.Core.Path.{refl}
use Rattle.check_fast.proofs.Growing.{marked-none, marked_next}
use Rattle.check_fast.proofs.mark.Goals as goal

pub loop-place-init : goal.loop-place-init
loop-place-init c = marked-none _

pub loop-place-preserved : goal.loop-place-preserved
loop-place-preserved c = marked_next _ c.loop-place.place-index c.loop-place-test.true c.loop-place.invariant c.from-q.ensures refl
