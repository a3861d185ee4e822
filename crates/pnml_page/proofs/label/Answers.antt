use Rattle.pnml_page.proofs.Tags as tags
use mathlib.Core.Path.{refl}
use Rattle.pnml_page.proofs.label.Goals as goal

pub returns-then-text-inside : goal.returns-then-text-inside
returns-then-text-inside c =
    tags.label-none c.args.text.now c.args.at c.args.start.now c.args.stop.now c.args.missing c.word-inside.result _ c.word-inside.ensures c.if-text-inside.true refl refl

pub returns : goal.returns
returns c =
    tags.label-some c.args.text.now c.args.at c.args.start.now c.args.stop.now c.args.missing c.word-inside.result c.word-inside.ensures c.if-text-inside.false c.held.ensures
