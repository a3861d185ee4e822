use Rattle.pnml_net.specs.Read.{entries}
use Rattle.pnml_net.specs.Named.{any_off}
use Rattle.pnml_names.specs.declared.Which.TheVariants.{Arcs}
use native.Mathlib.Omega.{arith}
use Prim.Native.Nat.{◌+◌, ◌-◌}
use mathlib.Core.Path.{◌≡◌, ap, ◌∙◌}
use lib.ListN.{length}
use Rattle.pnml_file.proofs.Laws as laws
use Rattle.pnml_arcs.proofs.Joining.{listing_long}
use Rattle.pnml_file.proofs.unfit.Goals as goal

pub overflow_add-middle : goal.overflow_add-middle
overflow_add-middle c = let g = c.requires in omega (arith, listing_long g, g.few)

pub overflow_sub-names : goal.overflow_sub-names
overflow_sub-names c = let g = c.requires in omega (arith, listing_long g)

pub overflow_sub-names-2 : goal.overflow_sub-names-2
overflow_sub-names-2 c = let g = c.requires in omega (arith, listing_long g)

pub slice_bounds-marking_off-end : goal.slice_bounds-marking_off-end
slice_bounds-marking_off-end c = let g = c.requires in omega (arith, listing_long g)

pub returns : goal.returns
returns c =
    let g = c.requires in let a : length c.args.names.now - (2 + c.args.places) - c.args.transitions ≡ length (entries Arcs c.args.text.now) = omega (arith, listing_long g) in laws.unfit-is c.args.text.now c.args.off g.place_count g.transition_count a c.counts_off-counts.ensures (c.marking_off-markings.ensures ∙ ap (any_off 0 4294967295) (laws.places_part g))
