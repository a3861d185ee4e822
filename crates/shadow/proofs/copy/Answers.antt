use mathlib.Core.Path.{◌∙◌}
use native.Mathlib.Omega.{arith}
use lib.Seq.{ext_get_or}
use Rattle.shadow.proofs.copy.Goals as goal

pub returns : goal.returns
returns c = ext_get_or 0 c.loop-p.to c.args.from.now (c.loop-p.auto.to ∙ c.requires) (λ q u. c.loop-p.invariant q (omega (arith, u, c.loop-p-test.false, c.loop-p.auto.to, c.requires)))
