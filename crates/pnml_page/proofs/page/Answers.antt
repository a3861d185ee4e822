use Rattle.pnml_page.specs.Steps
use Rattle.pnml_page.proofs.page.Goals as goal

pub returns : goal.returns
unfolding Steps.page
returns c =
    rw (c.word.ensures, c.spaces-inside.ensures, c.word-opened.ensures, c.id-named.ensures, c.net-a.ensures)
