use Prim.Native.Nat.{◌*◌}
use Rattle.file.specs.Layout.{net_from}
use Rattle.file_writing.specs.Writing.{places_bytes}
use Rattle.tables.proofs.Storing.{Storing}
use Rattle.slice_put.proofs.Placing.{places_from}
use Rattle.normal.proofs.write_places.Given as goal

abbrev pub invariant-loop-p : goal.invariant-loop-p
invariant-loop-p l =
    let N = net_from l.plan l.h in
    Storing l.initial.buffer 0 (places_bytes 2 N.marking N.cap 0 l.h.places) l.buffer (8 * l.p) (places_from 2 N.marking N.cap l.h.places l.p)
