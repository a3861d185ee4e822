use Prim.Native.Nat.{◌-◌}
use Rattle.together.proofs.Weighing.{Weighed}
use Rattle.together.proofs.fewest.Given as goal

abbrev pub invariant-loop-j : goal.invariant-loop-j
invariant-loop-j l = Weighed l.file l.start l.from l.to l.marking l.j l.least

abbrev pub decreases-loop-j : goal.decreases-loop-j
decreases-loop-j l = l.to - l.j
