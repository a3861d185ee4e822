use Rattle.cut_search.proofs.Closing.{stepped_none, stepped}
use Rattle.cut_search.proofs.step.Goals as goal

pub returns-in_default : goal.returns-in_default
returns-in_default c = let r = c.requires in stepped_none _ c.args.h r.0.0 _ _ _ _ _ _ r.1 c.in_default.ensures.lowest

pub returns : goal.returns
returns c =
    let r = c.requires in
    stepped _ c.args.h r.0.0 _ _ _ _ _ _ r.1 _ c.in-Some.ensures.lowest _ c.insert.ensures _ _ c.in-Some.ensures.marked _ _ c.turn.ensures
