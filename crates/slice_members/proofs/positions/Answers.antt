use native.Mathlib.Omega.{arith}
use Rattle.slice_members.proofs.Placed.{placed_more, placed_all}
use Rattle.slice_members.proofs.positions.Goals as goal

pub loop-i-preserved : goal.loop-i-preserved
loop-i-preserved c = placed_more _ _ _ _ c.loop-i.invariant c.requires.rises c.loop-i-test.true (c.requires.within c.loop-i.i c.loop-i-test.true)

pub returns : goal.returns
returns c = (c.loop-i.invariant.long, placed_all _ _ _ _ c.loop-i.invariant (omega (arith, c.loop-i-test.false, c.loop-i.auto)))
