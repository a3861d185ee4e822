use Prim.Native.Nat.{◌-◌}
use Rattle.arcs_starts.specs.Table.{slot_at, Ordered}
use Rattle.arcs_starts.proofs.Halving.{Halving}
use Rattle.arcs_starts.proofs.halved_from.Given as goal

abbrev pub invariant-loop-low : goal.invariant-loop-low
invariant-loop-low l = Halving (Ordered l.file l.start l.count) (slot_at l.file l.start) l.from l.count l.k l.low l.high

abbrev pub decreases-loop-low : goal.decreases-loop-low
decreases-loop-low l = l.high - l.low
