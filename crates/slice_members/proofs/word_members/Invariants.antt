use Prim.Native.Nat.{◌^◌, ◌<◌}
use lib.ListN.{length}
use Rattle.tables.proofs.Storing.{Storing}
use Rattle.slice_members.specs.List.{bits_from}
use Rattle.slice_members.proofs.word_members.Given as goal

abbrev pub invariant-loop-w : goal.invariant-loop-w
invariant-loop-w l = (l.w < 2 ^ 64) × Storing l.initial.list l.from (bits_from l.base l.word) l.list l.n (bits_from l.base l.w)

abbrev pub decreases-loop-w : goal.decreases-loop-w
decreases-loop-w l = length (bits_from l.base l.w)
