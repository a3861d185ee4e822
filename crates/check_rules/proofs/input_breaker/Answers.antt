use mathlib.Core.Path.{sym, ◌∙◌}
use Rattle.check_rules.proofs.Steps.{past, range7}
use Rattle.check_rules.proofs.input_breaker.Goals as goal

pub returns-then-doubt-gt7 : goal.returns-then-doubt-gt7
returns-then-doubt-gt7 c = let pre = c.requires in sym (range7 _ _) ∙ past _ (pre.unbroken c.if-doubt-gt7.true)
