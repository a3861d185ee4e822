use mathlib.Core.Path.{ap}
use native.Mathlib.Omega.{arith}
use Rattle.net.specs.declared.Arc.{Arc}
use Rattle.range.proofs.Need.{credits_more}
use Rattle.range.proofs.credit.Goals as goal

pub loop-j-preserved : goal.loop-j-preserved
loop-j-preserved c =
    credits_more c.loop-j.invariant c.loop-j.auto.j _ c.arc-a.ensures.0
    (omega (arith, ap (λ (a : Arc). a.place) c.arc-a.ensures.0, c.requires.places _ c.loop-j-test.true)) c.saturating_sub.ensures
