use native.Mathlib.Omega.{arith}
use mathlib.Core.Path.{refl}
use Rattle.pnml_file.proofs.Laws as laws
use Rattle.pnml_file.proofs.marking_off.Goals as goal

pub loop-at-init : goal.loop-at-init
loop-at-init c = record { below = omega arith; so = refl }

pub returns : goal.returns
returns c = laws.look_end c.loop-at.invariant c.loop-at-test.false

pub returns-then-marking-gt4294967295 : goal.returns-then-marking-gt4294967295
returns-then-marking-gt4294967295 c = laws.look_off c.loop-at.invariant c.loop-at-test.true refl c.marking.ensures c.if-marking-gt4294967295.true

pub loop-at-preserved : goal.loop-at-preserved
loop-at-preserved c = laws.look_on c.loop-at.invariant c.loop-at-test.true refl c.marking.ensures c.if-marking-gt4294967295.false
