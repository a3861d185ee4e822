use native.Mathlib.Omega.{arith}
use mathlib.Core.Path.{ap}
use Rattle.net.specs.declared.Arc.{Arc}
use Rattle.arcs_starts.proofs.Halving.{halving_start, halving_up, halving_down}
use Rattle.arcs_effect.proofs.place_from.Goals as goal

pub loop-low-init : goal.loop-low-init
loop-low-init c = halving_start c.requires c.requires.order c.requires.rising

pub loop-low-preserved-then-a-place : goal.loop-low-preserved-then-a-place
loop-low-preserved-then-a-place c = halving_up c.loop-low.invariant _ (omega (arith, c.loop-low-test.true)) (omega (arith, c.loop-low-test.true)) (ap (λ (a : Arc). a.place) c.arc-a.ensures.0) c.if-a-place.true

pub loop-low-preserved : goal.loop-low-preserved
loop-low-preserved c = halving_down c.loop-low.invariant _ (omega (arith, c.loop-low-test.true)) (omega (arith, c.loop-low-test.true)) (ap (λ (a : Arc). a.place) c.arc-a.ensures.0) c.if-a-place.false
