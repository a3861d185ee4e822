use Prim.Native.Nat.{◌-◌}
use Rattle.cut_index.proofs.Linking.{Linking}
use Rattle.cut_index.proofs.index.Given as goal

abbrev pub invariant-loop-j : goal.invariant-loop-j
invariant-loop-j l = Linking l.file l.h l.initial.head l.initial.next l.head l.next l.last l.from l.j

abbrev pub decreases-loop-j : goal.decreases-loop-j
decreases-loop-j l = l.h.arcs - l.j
