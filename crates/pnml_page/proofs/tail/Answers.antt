use Rattle.pnml_page.proofs.Tags as tags
use mathlib.Core.Path.{refl}
use Rattle.pnml_page.proofs.tail.Goals as goal

pub returns-then-closed-text : goal.returns-then-closed-text
returns-then-closed-text c =
    tags.tail-closed c.args.text.now c.args.at c.args.start.now c.args.stop.now c.args.missing c.args.finish.now c.word-closed.result _ c.word-closed.ensures c.if-closed-text.true refl refl

pub returns : goal.returns
returns c =
    tags.tail-open c.args.text.now c.args.at c.args.start.now c.args.stop.now c.args.missing c.args.finish.now c.word-closed.result c.word-opened.result c.spaces-inside.result _ c.word-closed.ensures c.if-closed-text.false c.word-opened.ensures c.spaces-inside.ensures c.label-n.ensures c.word-next.ensures refl
