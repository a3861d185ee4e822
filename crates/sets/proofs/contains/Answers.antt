use Rattle.sets.specs.Member.{bit, member}
use mathlib.Core.Path.{refl}
use Rattle.sets.proofs.contains.Goals as goal

pub returns : goal.returns
unfolding bit member
returns c = refl
