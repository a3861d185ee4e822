use mathlib.Core.Path.{sym, ◌∙◌}
use native.Mathlib.Omega.{arith}
use Rattle.refusals.proofs.Numbers.{number_some, passed_on}
use Rattle.file_header.specs.declared.Due.TheVariants as due
use Rattle.file.proofs.Opening.{opened_ok, turned_back_lem}
use Rattle.inputs_starts.proofs.Calls.{opened_from}
use Rattle.call_check.proofs.Checks.{criterion_turned, judged}
use Rattle.call_check.proofs.Starting.{plan_stops, slice_stops, start_stops, goes_on_lem, with-guarantee}
use Rattle.call_check.proofs.starts.check_from.Goals as goal

pub returns-in_default : goal.returns-in_default
returns-in_default c =
    let a = c.args in
    let told = with-guarantee a.plan.now a.slice.now a.start.now a.criterion.now (λ i. omega (arith, c.type_inv.plan i))
    (plan_stops _ _ _ _ _ (turned_back_lem due.Plan _ c.read-first.ensures c.unwrap_err.ensures)) in
    record { answer = told.0; guarantee = told.1 }

pub returns-in_default-second : goal.returns-in_default-second
returns-in_default-second c =
    let a = c.args in
    let told = with-guarantee a.plan.now a.slice.now a.start.now a.criterion.now (λ i. omega (arith, c.type_inv.plan i))
    (slice_stops _ _ _ _ _ (opened_ok due.Plan _ c.in-Ok.ensures) _ (turned_back_lem due.Slice _ c.read-second.ensures c.unwrap_err-in_default-second.ensures)) in
    record { answer = told.0; guarantee = told.1 }

pub check-requires : goal.check-requires
check-requires c = (opened_ok due.Plan _ c.in-Ok.ensures).good.placed

pub returns-in_err-check : goal.returns-in_err-check
returns-in_err-check c =
    let a = c.args in
    let told = with-guarantee a.plan.now a.slice.now a.start.now a.criterion.now (λ i. omega (arith, c.type_inv.plan i))
    (start_stops _ _ _ _ _ (opened_ok due.Plan _ c.in-Ok.ensures) _ (opened_ok due.Slice _ c.in-Ok-second.ensures) c.in_err-check.ensures (number_some _)) in
    rw (passed_on _ c.from_residual.ensures.1) (record { answer = told.0; guarantee = told.1 })

pub returns-in_err-check-2 : goal.returns-in_err-check-2
returns-in_err-check-2 c =
    let a = c.args in
    let p = opened_ok due.Plan _ c.in-Ok.ensures in
    let s = opened_ok due.Slice _ c.in-Ok-second.ensures in
    let passes = sym c.in_ok-check.ensures in
    let on = opened_from (record { opened = p; passes = passes }) (λ i. omega (arith, c.type_inv.plan i)) in
    let told = with-guarantee a.plan.now a.slice.now a.start.now a.criterion.now (λ i. omega (arith, c.type_inv.plan i))
    (goes_on_lem _ _ _ _ _ p _ s passes (criterion_turned _ a.slice.now a.criterion.now _ on _ s _ c.in_err-check-2.ensures (number_some _))) in
    rw (passed_on _ c.from_residual-in_err-check-2.ensures.1) (record { answer = told.0; guarantee = told.1 })

pub judge-requires : goal.judge-requires
judge-requires c = record {
  startable = record { opened = opened_ok due.Plan _ c.in-Ok.ensures; passes = sym c.in_ok-check.ensures };
  opened = opened_ok due.Slice _ c.in-Ok-second.ensures;
  criterion_value = sym c.in_ok-check-2.ensures;
}

pub returns : goal.returns
returns c =
    let a = c.args in
    let p = opened_ok due.Plan _ c.in-Ok.ensures in
    let s = opened_ok due.Slice _ c.in-Ok-second.ensures in
    let passes = sym c.in_ok-check.ensures in
    let on = opened_from (record { opened = p; passes = passes }) (λ i. omega (arith, c.type_inv.plan i)) in
    let told = with-guarantee a.plan.now a.slice.now a.start.now a.criterion.now (λ i. omega (arith, c.type_inv.plan i))
    (goes_on_lem _ _ _ _ _ p _ s passes (c.judge.ensures ∙ judged _ a.slice.now a.criterion.now _ on _ s (sym c.in_ok-check-2.ensures))) in
    record { answer = told.0; guarantee = told.1 }
