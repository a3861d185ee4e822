use Rattle.std.proofs.Common.{◌+◌, ◌-◌, ◌*◌}
use Rattle.file_arcs.proofs.Marks.{Reached}
use Rattle.file_arcs.proofs.sweep.all_good.Given as goal

abbrev pub invariant-loop-k : goal.invariant-loop-k
invariant-loop-k l =
    Reached l.file l.places l.transitions l.start l.count (l.start + 16 * l.k) l.least (l.count - 2 * l.k)
