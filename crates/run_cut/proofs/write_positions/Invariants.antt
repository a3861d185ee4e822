use lib.ListN.{length}
use Rattle.net.specs.Numbers.{selected}
use Rattle.run_cut.proofs.Filling.{chosen_in, Filled}
use Rattle.run_cut.proofs.write_positions.Given as goal

abbrev pub invariant-loop-i : goal.invariant-loop-i
invariant-loop-i l = Filled (chosen_in l.list l.last) l.end (length (selected (chosen_in l.list l.last) 0 l.end)) l.initial.positions l.positions l.n l.i
