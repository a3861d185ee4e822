use Rattle.file_arcs.specs.Layout.{arcs_from}
use Rattle.file_writing.specs.Writing.{arcs_bytes}
use Rattle.slice_arcs.specs.Between.{kept_arcs}
use Rattle.slice_arcs.proofs.Steps.{arcs_at}
use Rattle.slice_arcs.proofs.Writing.{Writing}
use Rattle.slice_arcs.proofs.write_arcs.Given as goal

abbrev pub invariant-loop-j : goal.invariant-loop-j
invariant-loop-j l =
    Writing l.initial.buffer l.first (arcs_bytes (kept_arcs l.places l.transitions (arcs_from l.plan l.start l.count))) l.buffer l.at (arcs_bytes (kept_arcs l.places l.transitions (arcs_at l.plan l.start l.j l.count)))
