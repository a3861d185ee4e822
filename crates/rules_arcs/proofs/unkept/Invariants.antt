use Prim.Native.Nat.{ℕ, ◌+◌, ◌*◌, ◌≤◌, ◌<◌}
use mathlib.Core.Path.{◌≡◌}
use lib.ListN.{get_or}
use Rattle.file_arcs.specs.Layout.{arc_at}
use Rattle.rules_arcs.proofs.unkept.Given as goal

abbrev pub invariant-loop-j : goal.invariant-loop-j
invariant-loop-j l = (i : ℕ) → l.from ≤ i → i < l.j → get_or l.ownp (arc_at l.plan (l.start + 8 * i)).place 0 ≡ 0 → ⊥
