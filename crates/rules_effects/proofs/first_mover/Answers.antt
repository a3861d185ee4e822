use mathlib.Core.Path.{sym, ◌∙◌}
use Rattle.net.proofs.Numbers.{first-is}
use Rattle.rules_tables.proofs.Lowest.{lowest_none}
use Rattle.rules_effects.proofs.first_mover.Goals as goal

pub returns-then-left_out_moves-clause-value : goal.returns-then-left_out_moves-clause-value
returns-then-left_out_moves-clause-value c = first-is _ _ _ c.loop-t-test.true (sym c.left_out_moves.ensures.value ∙ c.if-left_out_moves.true) c.loop-t.invariant.0

pub returns-clause-value : goal.returns-clause-value
returns-clause-value c = lowest_none _ _ _ c.loop-t.invariant.0 c.loop-t-test.false
