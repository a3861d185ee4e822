use native.Mathlib.Omega.{arith}
use Rattle.call_cuts.proofs.Starting.{safety-promised}
use Rattle.call_cuts.proofs.starts.safety_from.Goals as goal

pub returns : goal.returns
returns c =
    let known = c in
    let a = known.args in
    let told = safety-promised a.plan.now a.start.now a.criterion.now a.buffer.now (λ i. omega (arith, known.type_inv.plan i)) (c.cut_from.ensures.result_value, (c.cut_from.ensures.buffer_after)) in
    record { answer = told.0; buffer = told.1.0; smallest = told.1.1 }
