use native.Mathlib.Omega.{arith}
use Rattle.pnml_names.proofs.Filling as filling
use Rattle.pnml_names.proofs.keep.Goals as goal

pub overflow_cast-table : goal.overflow_cast-table
overflow_cast-table c = record { fits = omega (arith, (c.requires c.if-kept.true).1) }

pub offset_bounds-table-k : goal.offset_bounds-table-k
offset_bounds-table-k c = omega (arith, (c.requires c.if-kept.true).0)

pub bounds-table-k : goal.bounds-table-k
bounds-table-k c = omega (arith, (c.requires c.if-kept.true).0)

pub overflow_add-result : goal.overflow_add-result
overflow_add-result c = omega (arith, (c.requires c.if-kept.true).0)

pub returns-then-kept : goal.returns-then-kept
returns-then-kept c = filling.kept-yes c.args.table.now c.args.k c.args.a c.args.kept (c.requires c.if-kept.true).0 c.if-kept.true

pub returns : goal.returns
returns c = filling.kept-no c.args.table.now c.args.k c.args.a c.args.kept c.if-kept.false
