use native.Mathlib.Omega.{arith}
use Rattle.clients_starts.proofs.Owning.{own-safety}
use Rattle.clients_starts.proofs.own.safety.Goals as goal
use Rattle.clients_starts.proofs.own.safety.Goals.{After-replay, After-safety_from, After-shared_slice_known-1}

-- ---- the states: the own marking replayed, the call from there

abbrev begun : After-safety_from → After-replay
begun c = (goal.at.After-safety_from c).After-replay

abbrev lent : After-replay → After-shared_slice_known-1
lent c = (goal.at.After-replay c).After-shared_slice_known-1

pub returns : goal.returns
returns c =
    let done = c in
    let first = begun (goal.at.returns done).After-safety_from in
    let known = lent first in
    let s = known.args in
    let x = done.safety_from.ensures in
    record { answer = λ long. (own-safety s.plan.now s.own.now (λ i. omega (arith, known.type_inv.plan i)) long first.replay.ensures.marking s.criterion.now s.buffer.now x.answer x.buffer).0; buffer = λ long. (own-safety s.plan.now s.own.now (λ i. omega (arith, known.type_inv.plan i)) long first.replay.ensures.marking s.criterion.now s.buffer.now x.answer x.buffer).1 }
