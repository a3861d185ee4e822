use Rattle.pnml_index.proofs.Searching as searching
use Rattle.pnml_index.proofs.find.Goals as goal

pub returns : goal.returns
returns c = searching.found_is c.args.text.now c.args.a c.args.names.now c.requires c.sum-h.ensures.0 c.from.ensures c.seek.result c.seek.ensures
