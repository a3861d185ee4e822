use mathlib.Core.Path.{sym}
use native.Mathlib.Omega.{arith}
use Rattle.refusals.proofs.Numbers.{passed_on}
use Rattle.file_header.specs.declared.Due.TheVariants as due
use Rattle.file.proofs.Opening.{opened_ok, turned_back_lem}
use Rattle.call_cuts.proofs.Cutting.{by_file, by_criterion, safety-refused, safety-untouched, safety-within, safety-written, safety-all}
use Rattle.call_cuts.proofs.cuts.safety.Goals as goal

pub returns-in_default : goal.returns-in_default
returns-in_default c =
    let a = c.args in
    let t = turned_back_lem due.Plan _ c.read-read.ensures c.unwrap_err.ensures in
    let e = by_file _ a.criterion.now t.0 t.1 in
    let told = safety-all a.plan.now a.criterion.now a.buffer.now (λ i. omega (arith, c.type_inv.plan i)) (safety-refused _ _ _ e _, safety-untouched _ _ _ e _) in
    record { answer = told.0; buffer = told.1.0; smallest = told.1.1 }

pub returns-in_err-check : goal.returns-in_err-check
returns-in_err-check c =
    let a = c.args in
    let e = by_criterion _ _ _ (opened_ok due.Plan _ c.in-Ok.ensures) c.in_err-check.ensures in
    let told = safety-all a.plan.now a.criterion.now a.buffer.now (λ i. omega (arith, c.type_inv.plan i)) (safety-refused _ _ _ e _, safety-untouched _ _ _ e _) in
    rw (passed_on _ c.from_residual.ensures.1) (record { answer = told.0; buffer = told.1.0; smallest = told.1.1 })

pub kept-kept-requires : goal.kept-kept-requires
kept-kept-requires c = record { sound = (opened_ok due.Plan _ c.in-Ok.ensures).good; criterion_value = sym c.in_ok-check.ensures }

pub write-requires : goal.write-requires
write-requires c =
    let o = opened_ok due.Plan _ c.in-Ok.ensures in
    record { sound = o.good; within = safety-within _ _ _ o (sym c.in_ok-check.ensures) _ c.kept-kept.ensures }

pub returns : goal.returns
returns c =
    let a = c.args in
    let w = c.write in
    let told = safety-all a.plan.now a.criterion.now a.buffer.now (λ i. omega (arith, c.type_inv.plan i))
    (safety-written _ _ _ (opened_ok due.Plan _ c.in-Ok.ensures) (sym c.in_ok-check.ensures) _ _ _ w.result (record { answer = w.ensures.answer; buffer = w.ensures.buffer }) c.kept-kept.ensures) in
    record { answer = told.0; buffer = told.1.0; smallest = told.1.1 }
