use Prim.Native.Nat.{ℕ, ◌%◌, ◌≤◌}
use Rattle.cut_rows.specs.Rows.{Last}
use Rattle.cut_search.proofs.Turns.{Following}
use Rattle.cut_search.proofs.follow.Given as goal

abbrev pub invariant-loop-e : goal.invariant-loop-e
invariant-loop-e l = (d p : ℕ) → d ≤ 1 → Last l.file l.h l.h.arcs d p l.row → Following l.file l.h d p l.e l.marks l.m l.initial.places l.initial.transitions l.places l.transitions

abbrev pub decreases-loop-e : goal.decreases-loop-e
decreases-loop-e l = l.e % 65536
