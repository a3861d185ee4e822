use lib.ListN.{length, get_or}
use Rattle.file.specs.Layout.{net_from}
use Rattle.file_header.specs.Layout.{places_length}
use Rattle.tables.proofs.Storing.{Storing}
use Rattle.slice_put.proofs.Placing.{places_from}
use Rattle.slice_parts.specs.Places.{kept_place_bytes}
use Rattle.slice_parts.proofs.write_places.Given as goal

abbrev pub invariant-loop-i : goal.invariant-loop-i
invariant-loop-i l =
    let N = net_from l.plan l.h in
    Storing l.initial.buffer 0 (kept_place_bytes l.h.edition N l.ps) l.buffer (places_length l.h.edition l.i) (places_from l.h.edition (λ k. N.marking (get_or l.ps k 0)) (λ k. N.cap (get_or l.ps k 0)) (length l.ps) l.i)
