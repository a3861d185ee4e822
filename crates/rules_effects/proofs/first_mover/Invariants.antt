use Prim.Native.Nat.{ℕ, ◌<◌}
use mathlib.Core.Bool.{false, not, ◌&&◌}
use mathlib.Core.Path.{◌≡◌}
use Rattle.net.specs.Numbers.{among}
use Rattle.file.specs.Layout.{net_from, slice_from}
use Rattle.rules_effects.specs.Movers.{moved, Resting}
use Rattle.rules_effects.proofs.first_mover.Given as goal

abbrev pub invariant-loop-t : goal.invariant-loop-t
invariant-loop-t l = ((k : ℕ) → k < l.t → (moved (net_from l.plan l.hp) l.limit k && not (among k (slice_from l.slice l.hs).transition_origins)) ≡ false) × Resting l.hp.places l.column
