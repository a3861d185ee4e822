use native.Mathlib.Omega.{arith}
use Rattle.file_header.specs.declared.Due.TheVariants as due
use Rattle.file.proofs.Opening.{opened_ok, turned_back_lem}
use Rattle.call_plans.proofs.Answering.{by_file, by_writing, all_three}
use Rattle.call_plans.proofs.forms.normal.Goals as goal

pub returns-in_default : goal.returns-in_default
returns-in_default c =
    let told = all_three c.args.plan.now c.args.buffer.now (λ i. omega (arith, c.type_inv.plan i)) (by_file _ _ _ (turned_back_lem due.Plan _ c.read-read.ensures c.unwrap_err.ensures)) in
    record { answer = told.0; buffer = told.1.0; form = told.1.1 }

pub write-requires : goal.write-requires
write-requires c = (opened_ok due.Plan _ c.in-Ok.ensures).good

pub returns : goal.returns
returns c =
    let told = all_three c.args.plan.now c.args.buffer.now (λ i. omega (arith, c.type_inv.plan i))
    (by_writing _ _ _ c.write.result (opened_ok due.Plan _ c.in-Ok.ensures) c.write.ensures.answer c.write.ensures.buffer) in
    record { answer = told.0; buffer = told.1.0; form = told.1.1 }
