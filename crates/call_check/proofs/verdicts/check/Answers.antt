use mathlib.Core.Path.{sym, ◌∙◌}
use mathlib.Core.List.{[]}
use Rattle.refusals.proofs.Numbers.{number_some, passed_on}
use Rattle.file_header.specs.declared.Due.TheVariants as due
use Rattle.file.proofs.Opening.{opened_ok, turned_back_lem}
use Rattle.promise.proofs.Demands.{when_accepted}
use Rattle.call_check.proofs.Checks.{plan_turned, slice_turned, criterion_turned, slice_kind, judged}
use Rattle.call_check.proofs.verdicts.check.Goals as goal

pub returns-in_default : goal.returns-in_default
returns-in_default c =
    let e = plan_turned _ _ _ _ (turned_back_lem due.Plan _ c.read-first.ensures c.unwrap_err.ensures) in
    record { answer = e; guarantee = when_accepted _ _ _ e }

pub returns-in_default-second : goal.returns-in_default-second
returns-in_default-second c =
    let p = opened_ok due.Plan _ c.in-Ok.ensures in
    let e = slice_turned _ _ _ _ p _ (turned_back_lem due.Slice _ c.read-second.ensures c.unwrap_err-in_default-second.ensures) in
    record { answer = e; guarantee = when_accepted _ _ _ e }

pub returns-in_err-check : goal.returns-in_err-check
returns-in_err-check c =
    let p = opened_ok due.Plan _ c.in-Ok.ensures in
    let s = opened_ok due.Slice _ c.in-Ok-second.ensures in
    let e = criterion_turned _ _ _ _ p _ s _ c.in_err-check.ensures (number_some _) in
    rw (passed_on _ c.from_residual.ensures.1) (record { answer = e; guarantee = when_accepted _ _ _ e })

pub judge-requires : goal.judge-requires
judge-requires c =
    let p = opened_ok due.Plan _ c.in-Ok.ensures in
    let s = opened_ok due.Slice _ c.in-Ok-second.ensures in
    record { planned = p.good; sliced = s.good; kind = slice_kind _ _ [] _ p _ s; criterion = sym c.in_ok-check.ensures }

pub returns : goal.returns
returns c =
    let p = opened_ok due.Plan _ c.in-Ok.ensures in
    let s = opened_ok due.Slice _ c.in-Ok-second.ensures in
    let e = c.judge.ensures ∙ judged _ _ _ _ p _ s (sym c.in_ok-check.ensures) in
    record { answer = e; guarantee = when_accepted _ _ _ e }
