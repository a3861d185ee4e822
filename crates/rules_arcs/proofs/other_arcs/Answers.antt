use mathlib.Core.Path.{refl, sym, ◌∙◌}
use Rattle.net.specs.Checker.{rule4}
use Rattle.rules_tables.proofs.Lowest.{breaker-found, breaker-none}
use Rattle.rules_arcs.proofs.other_arcs.Goals as goal

pub returns-then-differs : goal.returns-then-differs
unfolding rule4
returns-then-differs c = breaker-found _ _ _ refl c.loop-t.invariant c.loop-t-test.true (sym c.differs.ensures ∙ c.if-differs.true)

pub returns : goal.returns
unfolding rule4
returns c = breaker-none _ _ _ refl c.loop-t.invariant c.loop-t-test.false
