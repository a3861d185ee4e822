use Prim.Native.Nat.{◌-◌}
use Rattle.normal.proofs.Turns.{Writing}
use Rattle.normal.proofs.write_arcs.Given as goal

abbrev pub invariant-loop-j : goal.invariant-loop-j
invariant-loop-j l = Writing l.plan l.h l.initial.buffer l.start l.buffer l.at l.j

abbrev pub decreases-loop-j : goal.decreases-loop-j
decreases-loop-j l = l.h.arcs - l.j
