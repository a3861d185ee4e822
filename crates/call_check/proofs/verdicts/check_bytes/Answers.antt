use mathlib.Core.Path.{sym, ◌∙◌}
use mathlib.Core.List.{[]}
use Rattle.refusals.proofs.Numbers.{number_some}
use Rattle.file_header.specs.declared.Due.TheVariants as due
use Rattle.file.proofs.Opening.{opened_ok, turned_back_lem}
use Rattle.promise.proofs.Demands.{when_0}
use Rattle.call_check.proofs.Checks.{plan_turned_bytes, slice_turned_bytes, criterion_turned_bytes, slice_kind, judged_bytes}
use Rattle.call_check.proofs.verdicts.check_bytes.Goals as goal

pub returns-in_default : goal.returns-in_default
returns-in_default c =
    let e = c.number.ensures ∙ plan_turned_bytes _ _ _ _ (turned_back_lem due.Plan _ c.read-first.ensures c.unwrap_err.ensures) in
    record { answer = e; guarantee = when_0 _ _ _ e }

pub returns-in_default-second : goal.returns-in_default-second
returns-in_default-second c =
    let p = opened_ok due.Plan _ c.in-Ok.ensures in
    let e = c.number-in_default-second.ensures ∙ slice_turned_bytes _ _ _ _ p _ (turned_back_lem due.Slice _ c.read-second.ensures c.unwrap_err-in_default-second.ensures) in
    record { answer = e; guarantee = when_0 _ _ _ e }

pub judge_bytes-requires : goal.judge_bytes-requires
judge_bytes-requires c =
    let p = opened_ok due.Plan _ c.in-Ok.ensures in
    let s = opened_ok due.Slice _ c.in-Ok-second.ensures in
    record { sound = p.good; sound_2 = s.good; kind_value = slice_kind _ _ [] _ p _ s; q_value = sym c.in-Ok-check_bytes.ensures }

pub returns-in-Ok-check_bytes : goal.returns-in-Ok-check_bytes
returns-in-Ok-check_bytes c =
    let p = opened_ok due.Plan _ c.in-Ok.ensures in
    let s = opened_ok due.Slice _ c.in-Ok-second.ensures in
    let e = c.judge_bytes.ensures ∙ judged_bytes _ _ _ _ p _ s (sym c.in-Ok-check_bytes.ensures) in
    record { answer = e; guarantee = when_0 _ _ _ e }

pub returns-in-Err : goal.returns-in-Err
returns-in-Err c =
    let p = opened_ok due.Plan _ c.in-Ok.ensures in
    let s = opened_ok due.Slice _ c.in-Ok-second.ensures in
    let e = c.number-in-Err.ensures ∙ criterion_turned_bytes _ _ _ _ p _ s _ c.in-Err.ensures (number_some _) in
    record { answer = e; guarantee = when_0 _ _ _ e }
