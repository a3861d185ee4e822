use Rattle.cut_search.proofs.Closing.{ready_none, closed}
use Rattle.cut_growth.proofs.close.Goals as goal

pub grow-requires : goal.grow-requires
grow-requires c =
    let start = c in
    (start.requires.0, ready_none _ start.args.h start.requires.0.0 start.args.all start.args.both.now start.requires.1 start.requires.2 c.marks_below-marks.ensures)

pub returns : goal.returns
returns c =
    let start = c in
    closed _ start.args.h start.requires.0.0 _ _ _ _ _ _ c.grow.ensures
