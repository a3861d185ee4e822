use mathlib.Core.Path.{refl, ◌∙◌}
use Rattle.check_rules.proofs.Steps.{broken_here, holds_here, range4, range5}
use Rattle.check_rules.proofs.links_outcome.Goals as goal

pub returns-then-other-transitions : goal.returns-then-other-transitions
returns-then-other-transitions c = broken_here 4 _ _ _ _ (range4 _ _) c.arcs_breaker-other.ensures c.if-other-transitions.true

pub returns-then-missing-places : goal.returns-then-missing-places
returns-then-missing-places c =
    broken_here 5 _ _ _ _ (range5 _ _ _) (c.criterion_missing-missing.ensures _ _ refl c.requires.cases.places) c.if-missing-places.true
    ∙ holds_here 4 _ _ _ _ (range4 _ _) c.arcs_breaker-other.ensures c.if-other-transitions.false

pub returns : goal.returns
returns c =
    c.movers_outcome.ensures
    ∙ holds_here 5 _ _ _ _ (range5 _ _ _) (c.criterion_missing-missing.ensures _ _ refl c.requires.cases.places) c.if-missing-places.false
    ∙ holds_here 4 _ _ _ _ (range4 _ _) c.arcs_breaker-other.ensures c.if-other-transitions.false
