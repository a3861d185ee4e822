use mathlib.Core.Path.{◌≡◌}
use lib.ListN.{length}
use Rattle.net.specs.Numbers.{selected}
use Rattle.run_cut.proofs.Filling.{chosen_in}
use Rattle.run_cut.proofs.counted.Given as goal

abbrev pub invariant-loop-k : goal.invariant-loop-k
invariant-loop-k l = (l.n ≡ length (selected (chosen_in l.list l.last) 0 l.k))
