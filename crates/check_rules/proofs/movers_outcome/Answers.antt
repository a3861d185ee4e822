use mathlib.Core.Path.{◌∙◌}
use Rattle.check_rules.proofs.Steps.{broken_here, holds_here, range6, range7, range8}
use Rattle.check_rules.proofs.movers_outcome.Goals as goal

pub returns-then-changer-transitions : goal.returns-then-changer-transitions
returns-then-changer-transitions c = broken_here 6 _ _ _ _ (range6 _ _ _) c.change_breaker-changer.ensures.value c.if-changer-transitions.true

pub returns-then-taker-transitions : goal.returns-then-taker-transitions
returns-then-taker-transitions c =
    broken_here 7 _ _ _ _ (range7 _ _) c.input_breaker-taker.ensures c.if-taker-transitions.true
    ∙ holds_here 6 _ _ _ _ (range6 _ _ _) c.change_breaker-changer.ensures.value c.if-changer-transitions.false

pub returns-then-raiser-transitions : goal.returns-then-raiser-transitions
returns-then-raiser-transitions c =
    broken_here 8 _ _ _ _ (range8 _ _) c.raiser_missing-raiser.ensures.value c.if-raiser-transitions.true
    ∙ holds_here 7 _ _ _ _ (range7 _ _) c.input_breaker-taker.ensures c.if-taker-transitions.false
    ∙ holds_here 6 _ _ _ _ (range6 _ _ _) c.change_breaker-changer.ensures.value c.if-changer-transitions.false

pub returns : goal.returns
returns c =
    c.caps_outcome.ensures
    ∙ holds_here 8 _ _ _ _ (range8 _ _) c.raiser_missing-raiser.ensures.value c.if-raiser-transitions.false
    ∙ holds_here 7 _ _ _ _ (range7 _ _) c.input_breaker-taker.ensures c.if-taker-transitions.false
    ∙ holds_here 6 _ _ _ _ (range6 _ _ _) c.change_breaker-changer.ensures.value c.if-changer-transitions.false
