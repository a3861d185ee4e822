use Prim.Native.Nat.{◌%◌}
use Rattle.run_feed.proofs.Raising.{Along}
use Rattle.run_feed.proofs.add_raisers.Given as goal

abbrev pub invariant-loop-e : goal.invariant-loop-e
invariant-loop-e l = Along l.file l.h l.p l.e l.last l.initial.first l.first

abbrev pub decreases-loop-e : goal.decreases-loop-e
decreases-loop-e l = l.e % 65536
