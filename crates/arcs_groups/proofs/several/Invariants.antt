use Prim.Native.Nat.{ℕ, ◌-◌, ◌*◌, ◌≤◌, ◌<◌}
use mathlib.Core.Path.{◌≡◌}
use Rattle.arcs_groups.specs.Groups.{Parallel, run_weight}
use Rattle.arcs_groups.proofs.several.Given as goal

abbrev pub invariant-loop-e : goal.invariant-loop-e
invariant-loop-e l = ((i : ℕ) → l.j ≤ i → i < l.e → Parallel l.file l.start l.j i) × (l.sum ≡ run_weight l.file l.start l.j (l.e - l.j)) × (l.sum ≤ 65535 * (l.e - l.j))
