use Prim.Native.Nat.{◌-◌}
use lib.ListN.{length}
use Rattle.pnml_page.specs.Meant.{id_at}
use Rattle.pnml_names.specs.Names.{same_id}
use Rattle.pnml_index.proofs.Bytes as ids
use Rattle.pnml_index.proofs.alike.Given as goal

abbrev pub invariant-loop-a : goal.invariant-loop-a
invariant-loop-a l = ids.Comparing l.text l.i l.j (same_id (id_at l.text l.a) (id_at l.text l.b))

abbrev pub decreases-loop-a : goal.decreases-loop-a
decreases-loop-a l = length l.text - l.i
