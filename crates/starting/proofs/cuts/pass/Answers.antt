use native.Mathlib.Omega.{arith}
use Rattle.starting.proofs.Places.{none_kept}
use Rattle.starting.proofs.cuts.pass.Goals as goal

-- a word without a kept place
pub returns-then-next-n : goal.returns-then-next-n
returns-then-next-n c = (omega arith, c.if-next-n.true, none_kept _ _ _ c.if-places-p-ne0.false (omega arith))

-- the last word
pub returns : goal.returns
returns c = (omega (arith, c.requires.0), omega (arith, c.requires.0), none_kept _ _ _ c.if-places-p-ne0.false (omega (arith, c.if-next-n.false)))
