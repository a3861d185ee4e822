use Rattle.cut.proofs.Sets.{grown}
use Rattle.cut.proofs.grow.Goals as goal

pub returns : goal.returns
returns c =
    let start = c in
    let first = c.keep_criterion-kept.ensures in
    grown _ start.args.h _ start.requires.2 start.args.all _ _ _ _ first.places first.transitions c.close.ensures
