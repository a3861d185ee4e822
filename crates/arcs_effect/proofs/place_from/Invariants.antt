use Prim.Native.Nat.{◌-◌}
use Rattle.arcs_effect.specs.Runs.{Within}
use Rattle.arcs_effect.proofs.Places.{place_at}
use Rattle.arcs_starts.proofs.Halving.{Halving}
use Rattle.arcs_effect.proofs.place_from.Given as goal

abbrev pub invariant-loop-low : goal.invariant-loop-low
invariant-loop-low l = Halving (Within l.file l.start l.from l.to) (place_at l.file l.start) l.from l.to l.place l.low l.high

abbrev pub decreases-loop-low : goal.decreases-loop-low
decreases-loop-low l = l.high - l.low
