use mathlib.Core.Path.{sym, ◌∙◌}
use Rattle.check_rules.proofs.Steps.{past, range6}
use Rattle.check_rules.proofs.change_breaker.Goals as goal

pub returns-then-doubt-gt6-clause-value : goal.returns-then-doubt-gt6-clause-value
returns-then-doubt-gt6-clause-value c = sym (range6 _ _ _) ∙ past _ (c.requires.unbroken c.if-doubt-gt6.true)
