use Prim.Native.Nat.{◌+◌}
use lib.ListN.{length}
use Rattle.pnml_arcs.proofs.Packing as packing
use Rattle.pnml_arcs.proofs.pack.Given as goal

abbrev pub invariant-loop-k : goal.invariant-loop-k
invariant-loop-k l = packing.Packing l.text l.names l.places l.transitions (length l.initial.words) l.words l.off_limits (2 + l.places + l.transitions + l.k)
