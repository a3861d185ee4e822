use Prim.Native.Nat.{ℕ, ◌<◌}
use mathlib.Core.Bool.{false}
use mathlib.Core.Path.{◌≡◌}
use Rattle.net.specs.Checker.{breaks, rule9}
use Rattle.file.specs.Layout.{net_from, slice_from}
use Rattle.rules_arcs.proofs.output_missing.Given as goal

abbrev pub invariant-loop-t : goal.invariant-loop-t
invariant-loop-t l = (k : ℕ) → k < l.t → breaks (rule9 (net_from l.plan l.hp) (slice_from l.slice l.hs)) k ≡ false
