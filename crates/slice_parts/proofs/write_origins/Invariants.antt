use Prim.Native.Nat.{◌+◌, ◌*◌}
use lib.ListN.{drop}
use Rattle.file_writing.specs.Writing.{origins_bytes}
use Rattle.tables.proofs.Storing.{Storing}
use Rattle.slice_parts.proofs.write_origins.Given as goal

abbrev pub invariant-loop-i : goal.invariant-loop-i
invariant-loop-i l =
    Storing l.initial.buffer l.start (origins_bytes l.list) l.buffer (l.start + 2 * l.i) (origins_bytes (drop l.i l.list))
