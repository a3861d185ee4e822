use native.Mathlib.Omega.{arith}
use Rattle.replay.proofs.Underway.{ended-whole, ended-fired}
use Rattle.replay.specs.declared.Outcome.TheVariants.{Fired}
use Rattle.starting.proofs.Replayed.{ended-started}
use Rattle.starting.proofs.replays.replay_all.Goals as goal

-- ---- all fired at once

pub returns-then-list-done : goal.returns-then-list-done
returns-then-list-done c =
    let told = ended-started c.requires.startable (λ i. omega (arith, c.type_inv.file i)) c.args.list.now Fired (ended-fired c.begin-done.ensures c.if-list-done.true) in
    record { result_value = told.0; marking_after = told.1 }

-- ---- the rest

pub returns : goal.returns
returns c =
    let told = ended-started c.requires.startable (λ i. omega (arith, c.type_inv.file i)) c.args.list.now c.replay_rest.result (ended-whole c.begin-done.ensures c.replay_rest.ensures) in
    record { result_value = told.0; marking_after = told.1 }
