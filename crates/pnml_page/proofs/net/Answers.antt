use Rattle.pnml_page.specs.Steps
use Rattle.pnml_page.proofs.net.Goals as goal

pub returns : goal.returns
unfolding Steps.net
returns c = rw (c.word.ensures, c.spaces-inside.ensures, c.word-opened.ensures, c.spaces-first.ensures)
