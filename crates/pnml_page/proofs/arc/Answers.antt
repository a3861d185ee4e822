use Rattle.pnml_page.specs.Steps
use mathlib.Core.Path.{◌∙◌}
use Rattle.pnml_page.proofs.arc.Goals as goal

pub returns : goal.returns
unfolding Steps.source Steps.target Steps.arc
returns c =
    record { source = rw (c.word-source.ensures, c.id-named.ensures); target = rw (c.word-target.ensures, c.id-from.ensures, c.word-source.ensures, c.id-named.ensures); number = c.tail-n.ensures.number ∙ rw (c.id-to.ensures, c.word-target.ensures, c.id-from.ensures, c.word-source.ensures, c.id-named.ensures); rest = c.tail-n.ensures.rest ∙ rw (c.id-to.ensures, c.word-target.ensures, c.id-from.ensures, c.word-source.ensures, c.id-named.ensures) }
