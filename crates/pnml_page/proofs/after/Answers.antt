use Rattle.pnml_page.specs.Steps
use Rattle.pnml_page.proofs.after.Goals as goal

pub returns : goal.returns
unfolding Steps.after
returns c =
    rw (c.spaces.ensures, c.word-e.ensures, c.spaces-d.ensures, c.word-c.ensures, c.spaces-b.ensures, c.word-a.ensures)
