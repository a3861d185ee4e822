use Prim.Native.Nat.{◌+◌, ◌≤◌}
use mathlib.Core.Path.{◌≡◌}
use lib.ListN.{length}
use Rattle.file_arcs.specs.Layout.{arcs_from}
use Rattle.slice_arcs.specs.Between.{kept_arcs}
use Rattle.slice_arcs.proofs.Steps.{arcs_at}
use Rattle.slice_arcs.proofs.count_arcs.Given as goal

abbrev pub invariant-loop-j : goal.invariant-loop-j
invariant-loop-j l =
    (l.total ≤ l.j) × (l.total + length (kept_arcs l.places l.transitions (arcs_at l.plan l.start l.j l.count)) ≡ length (kept_arcs l.places l.transitions (arcs_from l.plan l.start l.count)))
