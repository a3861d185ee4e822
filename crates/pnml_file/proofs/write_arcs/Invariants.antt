use Prim.Native.Nat.{◌+◌, ◌*◌}
use lib.ListN.{drop}
use Rattle.file_writing.specs.Writing.{arcs_bytes}
use Rattle.tables.proofs.Storing.{Storing}
use Rattle.pnml_file.specs.Ready.{arcs_in}
use Rattle.pnml_file.proofs.write_arcs.Given as goal

abbrev pub invariant-loop-k : goal.invariant-loop-k
invariant-loop-k l = Storing l.initial.buffer l.start (arcs_bytes (arcs_in l.words)) l.buffer (l.start + 8 * l.k) (arcs_bytes (arcs_in (drop l.k l.words)))
