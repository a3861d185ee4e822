use mathlib.Core.Path.{sym}
use native.Mathlib.Omega.{arith}
use Rattle.refusals.proofs.Numbers.{passed_on}
use Rattle.file_header.specs.declared.Due.TheVariants as due
use Rattle.file.proofs.Opening.{opened_ok, turned_back_lem}
use Rattle.inputs_starts.proofs.Calls.{opened_from, by_file, by_start}
use Rattle.call_cuts.proofs.Cutting.{by_criterion}
use Rattle.call_cuts.proofs.Starting.{kind_refused, kind_written, from_refused, from_on, ready}
use Rattle.call_cuts.proofs.starts.cut_from.Goals as goal

pub returns-in_default : goal.returns-in_default
returns-in_default c =
    let a = c.args in
    let t = turned_back_lem due.Plan _ c.read-read.ensures c.unwrap_err.ensures in
    let told = from_refused a.kind a.plan.now a.start.now a.criterion.now a.buffer.now _ (by_file due.Plan _ a.start.now t.0 t.1) in
    record { result_value = told.0; buffer_after = told.1 }

pub check-requires : goal.check-requires
check-requires c = (opened_ok due.Plan _ c.in-Ok.ensures).good.placed

pub returns-in_err-check : goal.returns-in_err-check
returns-in_err-check c =
    let a = c.args in
    let told = from_refused a.kind a.plan.now a.start.now a.criterion.now a.buffer.now _ (by_start due.Plan _ _ _ (opened_ok due.Plan _ c.in-Ok.ensures) c.in_err-check.ensures) in
    rw (passed_on _ c.from_residual.ensures.1) (record { result_value = told.0; buffer_after = told.1 })

pub returns-in_err-check-2 : goal.returns-in_err-check-2
returns-in_err-check-2 c =
    let a = c.args in
    let starts = ready _ _ a.start.now (opened_ok due.Plan _ c.in-Ok.ensures) c.in_ok-check.ensures in
    let told = from_on a.kind a.plan.now _ a.start.now a.criterion.now a.buffer.now starts
    (kind_refused a.kind _ a.criterion.now _ (by_criterion _ _ _ (opened_from starts (λ i. omega (arith, c.type_inv.plan i))) c.in_err-check-2.ensures) a.buffer.now) in
    rw (passed_on _ c.from_residual-in_err-check-2.ensures.1) (record { result_value = told.0; buffer_after = told.1 })

pub cut-requires : goal.cut-requires
cut-requires c = record { startable = record { opened = opened_ok due.Plan _ c.in-Ok.ensures; passes = sym c.in_ok-check.ensures }; criterion_value = sym c.in_ok-check-2.ensures }

pub returns : goal.returns
returns c =
    let a = c.args in
    let x = c.cut in
    let starts = ready _ _ a.start.now (opened_ok due.Plan _ c.in-Ok.ensures) c.in_ok-check.ensures in
    let told = from_on a.kind a.plan.now _ a.start.now a.criterion.now a.buffer.now starts
    (kind_written _ a.criterion.now _ (opened_from starts (λ i. omega (arith, c.type_inv.plan i))) (sym c.in_ok-check-2.ensures) x.ensures.kept a.kind a.buffer.now _ x.result x.ensures.answers x.ensures.sets) in
    record { result_value = told.0; buffer_after = told.1 }
