use mathlib.Core.Path.{ap, ◌∙◌}
use native.Mathlib.Omega.{arith}
use Rattle.promise.specs.Calls.{Checked}
use Rattle.clients.proofs.Cutting.{fewer-places, fewer-transitions, says_no, says_0}
use Rattle.clients.proofs.cuts.accepted.Goals as goal

pub returns-then-places-c : goal.returns-then-places-c
returns-then-places-c c =
    let s = c.in-Ok.ensures in
    λ p t. says_no (fewer-places _ _ _ _ _ s.answer s.smallest (omega (arith, p, c.if-places-c.true)))

pub returns-then-transitions-c : goal.returns-then-transitions-c
returns-then-transitions-c c =
    let s = c.in-Ok.ensures in
    λ p t. says_no (fewer-transitions _ _ _ _ _ s.answer s.smallest (omega (arith, t, c.if-transitions-c.true)))

pub returns : goal.returns
returns c = λ p t. says_0 (c.code.ensures ∙ ap (λ (x : Checked). x.code) c.check-v.ensures.answer) (λ a. a, λ a. a)
