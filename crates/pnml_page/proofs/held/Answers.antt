use Rattle.pnml_page.specs.Steps.{held}
use mathlib.Core.Path.{◌∙◌}
use Rattle.pnml_page.proofs.held.Goals as goal

pub returns : goal.returns
unfolding held
returns c =
    record { number = c.number.ensures ∙ rw (c.word-first.ensures, c.spaces-inside.ensures); rest = rw (c.spaces-next.ensures, c.word-after.ensures, c.spaces-before.ensures, c.word-ended.ensures, c.digits-last.ensures, c.word-first.ensures, c.spaces-inside.ensures) }
