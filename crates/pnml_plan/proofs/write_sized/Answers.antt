use native.Mathlib.Omega.{arith}
use Prim.Native.Nat.{ℕ}
use lib.ListN.{length-replicate}
use Rattle.pnml_arcs.proofs.Joining.{listing_long}
use Rattle.pnml_list.proofs.Lists.{few_ids}
use Rattle.pnml_plan.proofs.Laws as laws
use Rattle.pnml_plan.proofs.write_sized.Goals as goal

pub list-counts-requires : goal.list-counts-requires
list-counts-requires g c = record { text_len_bound = c.requires.text_len_bound; text_value = c.requires.text_value; text_in_bounds = omega (arith, c.requires.ids_in_bounds, length-replicate {A = ℕ} g.row.N 0) }

pub write_named-requires : goal.write_named-requires
write_named-requires g c =
    let t = c.list-counts.ensures.table in
    record { text_len_bound = c.requires.text_len_bound; listing = t; blanks = laws.blanks _ g.row.N (omega (arith, c.requires.ids_in_bounds, few_ids c.args.text.now, listing_long t, t.place_count, t.transition_count)) }
