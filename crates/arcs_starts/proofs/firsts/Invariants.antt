use Prim.Native.Nat.{◌≤◌}
use Rattle.arcs_starts.proofs.Filling.{Firsts}
use Rattle.arcs_starts.proofs.firsts.Given as goal

abbrev pub invariant-loop-j : goal.invariant-loop-j
invariant-loop-j l = (l.next ≤ l.transitions) × Firsts l.file l.start l.count l.j l.next l.table
