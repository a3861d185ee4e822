use Prim.Native.Nat.{◌-◌}
use lib.ListN.{length}
use Rattle.pnml_index.proofs.Searching as searching
use Rattle.pnml_index.proofs.sum.Given as goal

abbrev pub invariant-loop-x : goal.invariant-loop-x
invariant-loop-x l = searching.Summing l.text l.a l.h l.i

abbrev pub decreases-loop-x : goal.decreases-loop-x
decreases-loop-x l = length l.text - l.i
