use native.Mathlib.Omega.{arith}
use Rattle.clients_starts.proofs.Owning.{own-check}
use Rattle.clients_starts.proofs.own.check.Goals as goal
use Rattle.clients_starts.proofs.own.check.Goals.{After-check_from, After-replay, After-shared_slice_known-1}

-- ---- the states: the own marking replayed, the check from there

abbrev begun : After-check_from → After-replay
begun c = (goal.at.After-check_from c).After-replay

abbrev lent : After-replay → After-shared_slice_known-1
lent c = (goal.at.After-replay c).After-shared_slice_known-1

pub returns : goal.returns
returns c =
    let first = begun c in
    let known = lent first in
    let s = known.args in
    record { answer = λ long. own-check s.plan.now s.own.now (λ i. omega (arith, known.type_inv.plan i)) long first.replay.ensures.marking s.slice.now s.criterion.now c.check_from.ensures.answer }
