use Prim.Native.Nat.{◌-◌}
use lib.ListN.{length}
use Rattle.pnml_page.specs.Meant.{id_at}
use Rattle.pnml_names.specs.Names.{same_id}
use Rattle.pnml_names.proofs.Ids as ids
use Rattle.pnml_names.proofs.same.Given as goal

abbrev pub invariant-loop-x : goal.invariant-loop-x
invariant-loop-x l = ids.Comparing l.text l.i l.j (same_id (id_at l.text l.a) (id_at l.text l.b))

abbrev pub decreases-loop-x : goal.decreases-loop-x
decreases-loop-x l = length l.text - l.i
