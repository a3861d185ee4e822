use Prim.Native.Nat.{◌*◌}
use lib.ListN.{length}
use Rattle.file_writing.specs.Writing.{places_bytes}
use Rattle.tables.proofs.Storing.{Storing}
use Rattle.slice_put.proofs.Placing.{places_from}
use Rattle.pnml_file.specs.Ready.{marking_in}
use Rattle.pnml_file.proofs.write_places.Given as goal

abbrev pub invariant-loop-p : goal.invariant-loop-p
invariant-loop-p l = Storing l.initial.buffer 0 (places_bytes 1 (marking_in l.text l.places) (λ p. 0) 0 (length l.places)) l.buffer (4 * l.p) (places_from 1 (marking_in l.text l.places) (λ p. 0) (length l.places) l.p)
