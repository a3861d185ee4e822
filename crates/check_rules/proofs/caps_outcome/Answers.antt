use mathlib.Core.Path.{sym, ◌∙◌}
use borrow.Author.Tests.{not-true}
use Rattle.file.proofs.Caps.{none_capped}
use Rattle.check_rules.proofs.Steps.{broken_here, holds_here, caps_left, none_left, range9, range10}
use Rattle.check_rules.proofs.caps_outcome.Goals as goal

pub returns-then-not-has_caps : goal.returns-then-not-has_caps
returns-then-not-has_caps c = caps_left _ _ (none_capped c.args.plan.now c.args.hp (sym c.has_caps.ensures ∙ not-true _ c.if-not-has_caps.true-raw))

pub returns-then-giver-transitions : goal.returns-then-giver-transitions
returns-then-giver-transitions c = broken_here 9 _ _ _ _ (range9 _ _) c.output_missing-giver.ensures c.if-giver-transitions.true

pub returns-then-mover-transitions : goal.returns-then-mover-transitions
returns-then-mover-transitions c =
    broken_here 10 _ _ _ _ (range10 _ _) c.cap_changer_missing-mover.ensures.value c.if-mover-transitions.true
    ∙ holds_here 9 _ _ _ _ (range9 _ _) c.output_missing-giver.ensures c.if-giver-transitions.false

pub returns : goal.returns
returns c =
    none_left 11
    ∙ holds_here 10 _ _ _ _ (range10 _ _) c.cap_changer_missing-mover.ensures.value c.if-mover-transitions.false
    ∙ holds_here 9 _ _ _ _ (range9 _ _) c.output_missing-giver.ensures c.if-giver-transitions.false
