use mathlib.Core.Path.{ap}
use Prim.Native.Nat.{◌+◌}
use Rattle.arcs_starts.specs.Table.{slot_of, slot_at}
use Prim.Native.Nat.{◌<◌}
use mathlib.Core.Path.{◌≡◌, ◌∙◌}
use native.Mathlib.Omega.{arith}
use lib.ListN.{length}
use Rattle.arcs_starts.proofs.Splits.{ended-more}
use Rattle.arcs_starts.proofs.ends.Goals as goal
use Rattle.arcs_starts.proofs.ends.Goals.{After-slot-k}

slot_is : (c : After-slot-k) → c.slot-k.result ≡ slot_at c.args.file.now c.args.start c.loop-j.j
unfolding slot_at
slot_is c = c.slot-k.ensures.0 ∙ ap slot_of c.arc-a.ensures.0

inside : (c : After-slot-k) → c.slot-k.result + 1 < length c.args.table.now
inside c = omega (arith, slot_is c, c.requires.slots.slots c.loop-j.j c.loop-j-test.true)

pub bounds-table-k : goal.bounds-table-k
bounds-table-k c = omega (arith, inside c, c.loop-j.invariant.long)

pub loop-j-preserved : goal.loop-j-preserved
loop-j-preserved c = ended-more c.loop-j.invariant _ (slot_is c) (inside c)
