use native.Mathlib.Omega.{arith}
use Rattle.file.specs.Layout.{net_from}
use Rattle.rules_effects.specs.Movers.{moved}
use Rattle.rules_effects.proofs.Limits.{when_kept, when_left_out}
use Rattle.rules_effects.proofs.left_out_moves.Goals as goal

pub returns-then-entry-ne0-clause-value : goal.returns-then-entry-ne0-clause-value
returns-then-entry-ne0-clause-value c = when_kept _ _ c.requires.cases.transitions _ (omega (arith, c.requires.cases.transitions_reached, c.requires.t_lt_transitions)) _ c.entry.ensures.0 c.if-entry-ne0.true (moved (net_from c.args.plan.now c.args.hp) c.args.limit.now c.args.t)

pub returns-clause-value : goal.returns-clause-value
returns-clause-value c = when_left_out _ _ c.requires.cases.transitions _ (omega (arith, c.requires.cases.transitions_reached, c.requires.t_lt_transitions)) _ c.entry.ensures.0 c.if-entry-ne0.false _ _ c.moves.ensures.value
