use native.Mathlib.Omega.{arith}
use Rattle.clients_starts.proofs.Owning.{own-replay}
use Rattle.clients_starts.proofs.own.replay.Goals as goal
use Rattle.clients_starts.proofs.own.replay.Goals.{After-replay, After-replay_from, After-shared_slice_known-1}

-- ---- the states: the own marking replayed, the call from there

abbrev begun : After-replay_from → After-replay
begun c = (goal.at.After-replay_from c).After-replay

abbrev lent : After-replay → After-shared_slice_known-1
lent c = (goal.at.After-replay c).After-shared_slice_known-1

pub returns : goal.returns
returns c =
    let done = c in
    let first = begun (goal.at.returns done).After-replay_from in
    let known = lent first in
    let s = known.args in
    let x = done.replay_from.ensures in
    record { answer = λ long. (own-replay s.file.now s.own.now (λ i. omega (arith, known.type_inv.file i)) long first.replay.ensures.marking s.list.now s.marking.now x.answer x.marking).0; marking = λ long. (own-replay s.file.now s.own.now (λ i. omega (arith, known.type_inv.file i)) long first.replay.ensures.marking s.list.now s.marking.now x.answer x.marking).1 }
