use Rattle.pnml_page.proofs.Tags as tags
use Rattle.pnml_page.proofs.transition.Goals as goal

pub returns-then-closed-text : goal.returns-then-closed-text
returns-then-closed-text c =
    tags.transition-closed c.args.text.now c.args.at c.id-end.result c.word-closed.result c.id-end.ensures c.word-closed.ensures c.if-closed-text.true

pub returns : goal.returns
returns c =
    tags.transition-open c.args.text.now c.args.at c.id-end.result c.word-closed.result c.id-end.ensures c.word-closed.ensures c.word-opened.result c.spaces-inside.result _ c.if-closed-text.false c.word-opened.ensures c.spaces-inside.ensures c.word.ensures
