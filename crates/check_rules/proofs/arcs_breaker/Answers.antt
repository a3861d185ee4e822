use mathlib.Core.Path.{sym, ◌∙◌}
use Rattle.arcs_starts.proofs.Reached.{tabled}
use Rattle.check_rules.proofs.Steps.{past, range4}
use Rattle.check_rules.proofs.arcs_breaker.Goals as goal

pub returns-then-doubt-gt4 : goal.returns-then-doubt-gt4
returns-then-doubt-gt4 c = sym (range4 _ _) ∙ past _ (c.requires.unbroken c.if-doubt-gt4.true)

pub starts-requires : goal.starts-requires
starts-requires c = tabled _ _ _ c.requires.cases.sliced c.requires.transitions_in_bounds
