use lib.ListN.{length}
use Rattle.arcs_starts.proofs.Splits.{Ended}
use Rattle.arcs_starts.proofs.ends.Given as goal

abbrev pub invariant-loop-j : goal.invariant-loop-j
invariant-loop-j l = Ended l.file l.start l.j (length l.initial.table) l.table
