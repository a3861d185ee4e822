use Prim.Native.Nat.{◌-◌, ◌<◌}
use lib.ListN.{get_or}
use Rattle.run_feed.specs.Back.{past, Back}
use Rattle.run_feed.proofs.back.Given as goal

abbrev pub invariant-loop-reached : goal.invariant-loop-reached
invariant-loop-reached l =
    Back l.file l.h l.criterion l.list (past l.reached) l.end l.places l.first l.chosen l.last × (0 < past l.reached → 0 < get_or l.first (get_or l.list (past l.reached - 1) 0) 0)

abbrev pub decreases-loop-reached : goal.decreases-loop-reached
decreases-loop-reached l = past l.reached
