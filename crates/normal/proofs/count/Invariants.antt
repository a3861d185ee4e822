use Prim.Native.Nat.{◌-◌}
use Rattle.normal.proofs.Turns.{Counting}
use Rattle.normal.proofs.count.Given as goal

abbrev pub invariant-loop-j : goal.invariant-loop-j
invariant-loop-j l = Counting l.plan l.h l.j l.total

abbrev pub decreases-loop-j : goal.decreases-loop-j
decreases-loop-j l = l.h.arcs - l.j
