use Prim.Native.Nat.{ℕ, ◌<◌}
use Rattle.file.specs.Layout.{net_from, slice_from}
use Rattle.promise.specs.Together.{standing}
use Rattle.promise.specs.Starts.{starting_at}
use Rattle.rules_origins.proofs.Keeping.{Alike}
use Rattle.starting.proofs.verdicts.other_start.Given as goal

abbrev pub invariant-loop-i : goal.invariant-loop-i
invariant-loop-i l = (k : ℕ) → k < l.i → Alike (starting_at (standing l.start) (net_from l.plan l.hp)) (slice_from l.slice l.hs) k
