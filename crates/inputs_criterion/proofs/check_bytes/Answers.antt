use mathlib.Core.Path.{sym, ◌∙◌}
use Rattle.inputs_criterion.proofs.Places.{odd_9, even}
use Rattle.inputs_criterion.proofs.check_bytes.Goals as goal

pub returns-then-n-ne0 : goal.returns-then-n-ne0
returns-then-n-ne0 c = odd_9 _ _ c.if-n-ne0.true

pub returns : goal.returns
returns c = c.check_places.ensures ∙ sym (even _ _ c.if-n-ne0.false)
