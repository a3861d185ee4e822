use Prim.Native.Nat.{ℕ, ◌<◌}
use Rattle.file.specs.Layout.{net_from, slice_from}
use Rattle.rules_origins.proofs.Keeping.{Alike}
use Rattle.rules_origins.proofs.other_place.Given as goal

abbrev pub invariant-loop-i : goal.invariant-loop-i
invariant-loop-i l = (k : ℕ) → k < l.i → Alike (net_from l.plan l.hp) (slice_from l.slice l.hs) k
