use mathlib.Core.Path.{sym}
use native.Mathlib.Omega.{arith}
use Rattle.net.specs.Range.{Covers}
use Rattle.net.proofs.Range.{covers-is, lacks_is}
use Rattle.clients_range.proofs.has_all.Goals as goal

pub returns-then-tokens-p : goal.returns-then-tokens-p
returns-then-tokens-p c = sym (lacks_is _ _ _ c.loop-p.p (omega (arith, c.loop-p-test.true, c.requires.0)) (omega (arith, c.if-tokens-p.true)))

pub returns : goal.returns
unfolding Covers
returns c = sym (covers-is _ _ _ (λ p l. c.loop-p.invariant p (omega (arith, l, c.loop-p-test.false, c.requires.0))))
