use Rattle.sets_pending.proofs.Laws.{without_it}
use Rattle.sets_pending.proofs.without.Goals as goal

pub returns : goal.returns
returns c = without_it c.args.marks c.args.i c.requires
