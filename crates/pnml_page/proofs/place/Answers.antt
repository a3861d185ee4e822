use Rattle.pnml_page.proofs.Tags as tags
use Rattle.pnml_page.proofs.place.Goals as goal

pub returns : goal.returns
returns c =
    tags.place-as c.args.text.now c.args.at c.id-end.result c.id-end.ensures c.tail.ensures
