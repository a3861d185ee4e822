use mathlib.Core.Path.{refl, sym, ◌∙◌}
use Rattle.net.specs.Checker.{rule7}
use Rattle.rules_tables.proofs.Lowest.{breaker-found, breaker-none}
use Rattle.rules_arcs.proofs.input_missing.Goals as goal

pub returns-then-lacks_input : goal.returns-then-lacks_input
unfolding rule7
returns-then-lacks_input c = breaker-found _ _ _ refl c.loop-t.invariant c.loop-t-test.true (sym c.lacks_input.ensures ∙ c.if-lacks_input.true)

pub returns : goal.returns
unfolding rule7
returns c = breaker-none _ _ _ refl c.loop-t.invariant c.loop-t-test.false
