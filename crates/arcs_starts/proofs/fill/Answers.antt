use native.Mathlib.Omega.{arith}
use Rattle.arcs_starts.proofs.Splits.{filled_none, filled_more}
use Rattle.arcs_starts.proofs.fill.Goals as goal

pub loop-k-init : goal.loop-k-init
loop-k-init c = filled_none _ c.requires.table_value

pub loop-k-preserved : goal.loop-k-preserved
loop-k-preserved c = filled_more c.loop-k.invariant (omega (arith, c.requires.last_in_bounds, c.loop-k-test.true)) _ c.max-most.ensures
