use Rattle.std.proofs.Common.{◌≡◌, ◌+◌, ◌-◌, ◌*◌}
use Rattle.file_arcs.specs.Refusal.{arcs_refusal}
use Rattle.file_arcs.proofs.check_each.Given as goal

abbrev pub invariant-loop-i : goal.invariant-loop-i
invariant-loop-i l =
    arcs_refusal l.file l.places l.transitions l.start 0 l.count ≡ arcs_refusal l.file l.places l.transitions (l.start + 8 * l.i) l.least (l.count - l.i)
