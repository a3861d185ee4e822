use Rattle.sets.proofs.Members.{inserted}
use Rattle.sets.proofs.insert.Goals as goal

pub returns : goal.returns
returns c = inserted c.args.words.now c.args.n c.requires.0 c.requires.1
