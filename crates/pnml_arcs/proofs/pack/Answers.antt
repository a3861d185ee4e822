use native.Mathlib.Omega.{arith}
use Prim.Native.Nat.{◌+◌}
use mathlib.Core.Path.{refl}
use Rattle.pnml_arcs.proofs.Joining as joining
use Rattle.pnml_arcs.proofs.Packing as packing
use Rattle.pnml_arcs.proofs.pack.Goals as goal

pub overflow_add-first-2 : goal.overflow_add-first-2
overflow_add-first-2 c = let g = c.requires.listing in omega (arith, joining.listing_long g, g.few)

pub offset_bounds-names-first : goal.offset_bounds-names-first
offset_bounds-names-first c = let g = c.requires.listing in omega (arith, joining.listing_long g, g.few)

pub slice_bounds-name-items-count : goal.slice_bounds-name-items-count
slice_bounds-name-items-count c = omega (arith, joining.listing_long c.requires.listing)

pub slice_bounds-name-items-start : goal.slice_bounds-name-items-start
slice_bounds-name-items-start c = omega (arith, joining.listing_long c.requires.listing)

pub loop-k-init : goal.loop-k-init
loop-k-init c = packing.packing_first c.requires.listing c.args.words.now (omega (arith, joining.listing_long c.requires.listing)) c.requires.names_len_bound

pub returns-in_default : goal.returns-in_default
returns-in_default c =
    let first = 2 + c.args.places + c.args.transitions in
    let names = c.args.names.now in
    packing.pack_told c.loop-k.invariant.room
    (packing.pack_apart c.requires.listing c.loop-k.invariant (omega (arith, c.loop-k-test.true, packing.part_long names first)) (packing.part_at names first c.loop-k.k c.from.ensures) c.in_default.ensures)

pub packed-requires : goal.packed-requires
packed-requires c =
    let first = 2 + c.args.places + c.args.transitions in
    let names = c.args.names.now in
    packing.low c.requires.listing c.loop-k.invariant (omega (arith, c.loop-k-test.true, packing.part_long names first)) (packing.part_at names first c.loop-k.k c.from.ensures) c.in-Some.ensures

pub loop-k-preserved : goal.loop-k-preserved
loop-k-preserved c =
    let first = 2 + c.args.places + c.args.transitions in
    let names = c.args.names.now in
    packing.pack_as c.requires.listing c.loop-k.invariant (omega (arith, c.loop-k-test.true, packing.part_long names first)) (packing.part_at names first c.loop-k.k c.from.ensures) c.in-Some.ensures c.loop-k.k refl c.packed.ensures c.off-off_limits.ensures

pub returns : goal.returns
returns c =
    let first = 2 + c.args.places + c.args.transitions in
    let names = c.args.names.now in
    packing.pack_end c.requires.listing c.loop-k.invariant (omega (arith, c.loop-k-test.false, packing.part_long names first)) c.args.words.now refl
