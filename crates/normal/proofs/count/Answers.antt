use native.Mathlib.Omega.{arith}
use Rattle.normal.proofs.Turns.{heavy, counting_next, counting_all}
use Rattle.normal.proofs.count.Goals as goal

pub returns-then-all-gt65535 : goal.returns-then-all-gt65535
returns-then-all-gt65535 c = heavy _ _ c.loop-j.invariant c.group-all.ensures.0 c.group-all.ensures.1 (omega (arith, c.if-all-gt65535.true))

pub loop-j-preserved : goal.loop-j-preserved
loop-j-preserved c = counting_next _ _ c.loop-j.invariant c.group-all.ensures.0 c.group-all.ensures.1 (omega (arith, c.if-all-gt65535.false))

pub returns : goal.returns
returns c = counting_all _ _ c.loop-j.invariant (omega (arith, c.loop-j-test.false))
