use mathlib.Core.Path.{sym, ap}
use native.Mathlib.Omega.{arith}
use lib.ListN.{length}
use Rattle.slice_arcs.proofs.Steps.{arc-no_transition, arc-no_place, arc-kept}
use Rattle.slice_arcs.proofs.one_if_kept.Goals as goal

pub returns-then-transition-eq0 : goal.returns-then-transition-eq0
returns-then-transition-eq0 c = (omega arith, λ a. sym (ap length (arc-no_transition _ _ a c.if-transition-eq0.true)))

pub returns-then-place-eq0 : goal.returns-then-place-eq0
returns-then-place-eq0 c = (omega arith, λ a. sym (ap length (arc-no_place _ _ a c.if-transition-eq0.false c.if-place-eq0.true)))

pub returns : goal.returns
returns c = (omega arith, λ a. sym (arc-kept _ _ a c.if-transition-eq0.false c.if-place-eq0.false))
