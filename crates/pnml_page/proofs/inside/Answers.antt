use Rattle.pnml_page.specs.Steps
use Rattle.pnml_page.proofs.inside.Goals as goal

pub returns : goal.returns
unfolding Steps.inside
returns c = rw (c.spaces.ensures, c.word-opened.ensures, c.id-named.ensures, c.page-a.ensures)
