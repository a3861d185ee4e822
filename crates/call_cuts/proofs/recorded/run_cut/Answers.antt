use mathlib.Core.Path.{sym, ◌∙◌}
use native.Mathlib.Omega.{arith}
use Rattle.refusals.specs.declared.Refusal.TheVariants.{Capped}
use Rattle.refusals.proofs.Numbers.{passed_on}
use Rattle.file_header.specs.declared.Due.TheVariants as due
use Rattle.file.proofs.Opening.{opened_ok, turned_back_lem}
use Rattle.call_cuts.proofs.Running.{by_file, by_caps, by_criterion, run-refused, run-passed, run-all}
use Rattle.call_cuts.proofs.recorded.run_cut.Goals as goal

pub returns-in_default : goal.returns-in_default
returns-in_default c =
    let a = c.args in
    let t = turned_back_lem due.Plan _ c.read-read.ensures c.unwrap_err.ensures in
    let e = by_file _ a.criterion.now t.0 t.1 in
    let told = run-all a.plan.now a.criterion.now a.list.now a.buffer.now a.positions.now (λ i. omega (arith, c.type_inv.plan i)) (run-refused _ _ _ _ _ _ e) in
    record { answer = told.0; buffer = told.1.0; positions = told.1.1.0; feeds = told.1.1.1 }

pub has_caps-requires : goal.has_caps-requires
has_caps-requires c = (opened_ok due.Plan _ c.in-Ok.ensures).good.placed

pub returns-then-has_caps : goal.returns-then-has_caps
returns-then-has_caps c =
    let a = c.args in
    let e = by_caps _ a.criterion.now _ (opened_ok due.Plan _ c.in-Ok.ensures) (sym c.has_caps.ensures ∙ c.if-has_caps.true) in
    let told = run-all a.plan.now a.criterion.now a.list.now a.buffer.now a.positions.now (λ i. omega (arith, c.type_inv.plan i)) (run-refused _ _ _ _ _ Capped e) in
    record { answer = told.0; buffer = told.1.0; positions = told.1.1.0; feeds = told.1.1.1 }

pub returns-in_err-check : goal.returns-in_err-check
returns-in_err-check c =
    let a = c.args in
    let e = by_criterion _ _ _ (opened_ok due.Plan _ c.in-Ok.ensures) (sym c.has_caps.ensures ∙ c.if-has_caps.false) c.in_err-check.ensures in
    let told = run-all a.plan.now a.criterion.now a.list.now a.buffer.now a.positions.now (λ i. omega (arith, c.type_inv.plan i)) (run-refused _ _ _ _ _ _ e) in
    rw (passed_on _ c.from_residual.ensures.1) (record { answer = told.0; buffer = told.1.0; positions = told.1.1.0; feeds = told.1.1.1 })

pub run-requires : goal.run-requires
run-requires c = ((opened_ok due.Plan _ c.in-Ok.ensures).good, sym c.in_ok-check.ensures)

pub returns : goal.returns
returns c =
    let a = c.args in
    let told = run-all a.plan.now a.criterion.now a.list.now a.buffer.now a.positions.now (λ i. omega (arith, c.type_inv.plan i))
    (run-passed _ _ _ _ (opened_ok due.Plan _ c.in-Ok.ensures) (sym c.has_caps.ensures ∙ c.if-has_caps.false) (sym c.in_ok-check.ensures) _ _ _ _ _ c.run.ensures) in
    record { answer = told.0; buffer = told.1.0; positions = told.1.1.0; feeds = told.1.1.1 }
