use native.Mathlib.Omega.{arith}
use Prim.Native.Nat.{◌+◌}
use Rattle.pnml_arcs.proofs.Joining as joining
use Rattle.pnml_arcs.proofs.between.Goals as goal

pub overflow_sub-result : goal.overflow_sub-result
overflow_sub-result c = omega (arith, (joining.all-four c.args.i c.args.j (2 + c.args.places) (2 + c.args.places + c.args.transitions) c.if-i-middle.true).2)

pub overflow_sub-result-then-i-middle : goal.overflow_sub-result-then-i-middle
overflow_sub-result-then-i-middle c = omega (arith, (joining.all-four c.args.i c.args.j (2 + c.args.places) (2 + c.args.places + c.args.transitions) c.if-i-middle.true).0)

pub returns-then-i-middle : goal.returns-then-i-middle
returns-then-i-middle c = rw c.if-i-middle.true

pub overflow_sub-result-then-j-middle : goal.overflow_sub-result-then-j-middle
overflow_sub-result-then-j-middle c = omega (arith, (joining.all-four c.args.j c.args.i (2 + c.args.places) (2 + c.args.places + c.args.transitions) c.if-j-middle.true).2)

pub overflow_sub-result-then-j-middle-2 : goal.overflow_sub-result-then-j-middle-2
overflow_sub-result-then-j-middle-2 c = omega (arith, (joining.all-four c.args.j c.args.i (2 + c.args.places) (2 + c.args.places + c.args.transitions) c.if-j-middle.true).0)

pub returns-then-j-middle : goal.returns-then-j-middle
returns-then-j-middle c = rw (c.if-i-middle.false, c.if-j-middle.true)

pub returns : goal.returns
returns c = rw (c.if-i-middle.false, c.if-j-middle.false)
