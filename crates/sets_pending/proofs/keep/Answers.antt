use Rattle.sets_pending.proofs.Laws.{place_kept}
use Rattle.sets_pending.proofs.keep.Goals as goal

pub returns : goal.returns
returns c = let start = c in place_kept start.args.marks start.args.p start.requires.0 _ _ c.insert.ensures
