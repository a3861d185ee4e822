use mathlib.Core.Path.{sym}
use native.Mathlib.Omega.{arith}
use Rattle.refusals.proofs.Numbers.{passed_on}
use Rattle.file_header.specs.declared.Due.TheVariants.{Either}
use Rattle.file.proofs.Opening.{opened_ok, turned_back_lem}
use Rattle.inputs_starts.specs.Startable.{Startable}
use Rattle.inputs_starts.proofs.Calls.{opened_from, by_file, by_start}
use Rattle.call_firing.proofs.Replayed.{read_answer, read_marking}
use Rattle.call_firing.proofs.Begun.{from_answer, from_marking, on_answer, on_marking}
use Rattle.call_firing.proofs.starts.replay_from.Goals as goal
use Rattle.call_firing.proofs.starts.replay_from.Goals.{In_ok-check}

-- the file was read, and the start passed
ready : (c : In_ok-check) → Startable Either c.args.file.now c.in-Ok.h c.args.start.now
ready c = record { opened = opened_ok Either _ c.in-Ok.ensures; passes = sym c.in_ok-check.ensures }

pub returns-in_default : goal.returns-in_default
returns-in_default c =
    let t = turned_back_lem Either _ c.read-read.ensures c.unwrap_err.ensures in
    let e = by_file Either _ c.args.start.now t.0 t.1 in
    record { answer = from_answer _ _ _ _ e _; marking = from_marking _ _ _ _ e _ }

pub check-requires : goal.check-requires
check-requires c = (opened_ok Either _ c.in-Ok.ensures).good.placed

pub returns-in_err-check : goal.returns-in_err-check
returns-in_err-check c =
    let e = by_start Either _ _ _ (opened_ok Either _ c.in-Ok.ensures) c.in_err-check.ensures in
    rw (passed_on _ c.from_residual.ensures.1) (record { answer = from_answer _ _ _ _ e _; marking = from_marking _ _ _ _ e _ })

pub replay-requires : goal.replay-requires
replay-requires c = ready (goal.at.replay-requires c).In_ok-check

pub returns : goal.returns
returns c =
    let r = ready (goal.at.returns c).In_ok-check in
    let o = opened_from r (λ i. omega (arith, c.type_inv.file i)) in
    let x = c.replay.ensures in
    record { answer = on_answer _ _ _ _ r _ (read_answer _ _ o _ _ _ x.answer); marking = on_marking _ _ _ _ r _ (read_marking _ _ o _ _ _ x.marking) }
