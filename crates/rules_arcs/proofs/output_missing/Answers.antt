use mathlib.Core.Path.{refl, sym, ◌∙◌}
use Rattle.net.specs.Checker.{rule9}
use Rattle.rules_tables.proofs.Lowest.{breaker-found, breaker-none}
use Rattle.rules_arcs.proofs.output_missing.Goals as goal

pub returns-then-lacks_output : goal.returns-then-lacks_output
unfolding rule9
returns-then-lacks_output c = breaker-found _ _ _ refl c.loop-t.invariant c.loop-t-test.true (sym c.lacks_output.ensures ∙ c.if-lacks_output.true)

pub returns : goal.returns
unfolding rule9
returns c = breaker-none _ _ _ refl c.loop-t.invariant c.loop-t-test.false
