use Rattle.sets_pending.proofs.Laws.{below-marked}
use Rattle.sets_pending.proofs.marks_below.Goals as goal

pub returns : goal.returns
returns c = below-marked c.args.n c.requires
