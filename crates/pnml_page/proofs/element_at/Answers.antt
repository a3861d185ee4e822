use Rattle.pnml_page.proofs.Tags as tags
use Rattle.pnml_page.proofs.element_at.Goals as goal

pub returns-then-a-n : goal.returns-then-a-n
returns-then-a-n c =
    tags.place_read_lem c.args.text.now c.args.at c.word-a.result c.word-a.ensures c.if-a-n.true c.place-held.ensures

pub returns-then-a-n-2 : goal.returns-then-a-n-2
returns-then-a-n-2 c =
    tags.transition-read c.args.text.now c.args.at c.word-a.result c.word-a.ensures c.word-a-2.result c.if-a-n.false c.word-a-2.ensures c.if-a-n-2.true c.transition-next.ensures

pub returns : goal.returns
returns c =
    tags.arc-read c.args.text.now c.args.at c.word-a.result c.word-a.ensures c.word-a-2.result c.if-a-n.false c.word-a-2.ensures c.word-a-3.result c.if-a-n-2.false c.word-a-3.ensures c.arc-ends.ensures
