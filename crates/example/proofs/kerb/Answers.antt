use mathlib.Core.Path.{refl}
use Rattle.promise.specs.Example.{small_plan}
use Rattle.example.proofs.kerb.Goals as goal

pub returns : goal.returns
unfolding small_plan
returns c = refl
