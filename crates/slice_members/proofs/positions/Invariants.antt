use lib.ListN.{length}
use Rattle.slice_members.proofs.Placed.{Placed}
use Rattle.slice_members.proofs.positions.Given as goal

abbrev pub invariant-loop-i : goal.invariant-loop-i
invariant-loop-i l = Placed l.list (length l.initial.table) l.i l.table
