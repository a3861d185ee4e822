use mathlib.Core.Path.{◌∙◌}
use Rattle.clients_range.proofs.Concluded.{one-case, none_apart}
use Rattle.clients_range.proofs.same_twice.Goals as goal

pub returns : goal.returns
returns c = c.same.ensures ∙ none_apart _ _ _ _ (λ x y. one-case _ _ _ x y c.range-a.ensures.range c.range-b.ensures.range)
