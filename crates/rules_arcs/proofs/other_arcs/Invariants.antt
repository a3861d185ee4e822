use Prim.Native.Nat.{ℕ, ◌<◌}
use mathlib.Core.Bool.{false}
use mathlib.Core.Path.{◌≡◌}
use Rattle.net.specs.Checker.{breaks, rule4}
use Rattle.file.specs.Layout.{net_from, slice_from}
use Rattle.rules_arcs.proofs.other_arcs.Given as goal

abbrev pub invariant-loop-t : goal.invariant-loop-t
invariant-loop-t l = (k : ℕ) → k < l.t → breaks (rule4 (net_from l.plan l.hp) (slice_from l.slice l.hs)) k ≡ false
