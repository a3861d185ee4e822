use native.Mathlib.Omega.{arith}
use Rattle.pnml_file.proofs.Laws as laws
use Rattle.pnml_arcs.proofs.Joining.{listing_long}
use Rattle.pnml_file.proofs.write_listed.Goals as goal

pub overflow_add-middle : goal.overflow_add-middle
overflow_add-middle c = let g = c.requires.listing in omega (arith, listing_long g, g.few)

pub slice_bounds-write-end : goal.slice_bounds-write-end
slice_bounds-write-end c = let g = c.requires.listing in omega (arith, listing_long g)

pub write-requires : goal.write-requires
write-requires c = laws.ready c.requires.listing c.requires.sorted
