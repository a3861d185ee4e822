use lib.ListN.{take}
use Rattle.check_fast.specs.Entries.{Marked}
use Rattle.check_fast.proofs.mark.Given as goal

abbrev pub invariant-loop-place : goal.invariant-loop-place
invariant-loop-place l = Marked (take l.place-index l.criterion) l.initial.places l.places
