use mathlib.Core.Path.{sym}
use native.Mathlib.Omega.{arith}
use Rattle.net.specs.Range.{Covers}
use Rattle.net.proofs.Range.{covers-is, lacks_is}
use Rattle.range.proofs.from_marking.Goals as goal

pub returns-then-most-marking : goal.returns-then-most-marking
returns-then-most-marking c = sym (lacks_is _ _ _ c.loop-p.p (omega (arith, c.requires.1)) (omega (arith, c.marking.ensures.0)))

pub returns : goal.returns
unfolding Covers
returns c = sym (covers-is _ _ _ (λ p l. c.loop-p.invariant p (omega (arith, l, c.requires.1))))
