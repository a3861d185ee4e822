use Rattle.file_header.specs.declared.Due.TheVariants.{Plan}
use Rattle.file.proofs.Opening.{opened_ok, turned_back_lem}
use Rattle.call_firing.proofs.Ranged.{file_refused, answered}
use Rattle.call_firing.proofs.ranges.range.Goals as goal

pub returns-in_default : goal.returns-in_default
returns-in_default c =
    let told = file_refused c.args.plan.now c.args.list.now c.args.upper.now c.args.need.now _ (turned_back_lem Plan _ c.read-read.ensures c.unwrap_err.ensures).0 in
    record { answer = told.0; need = told.1.0; range = told.1.1 }

pub extent-requires : goal.extent-requires
extent-requires c = (opened_ok Plan _ c.in-Ok.ensures).good

pub returns : goal.returns
returns c =
    let told = answered c.args.plan.now c.args.list.now c.args.upper.now c.args.need.now _ (opened_ok Plan _ c.in-Ok.ensures) _ _ c.extent.ensures.answer c.extent.ensures.need in
    record { answer = told.0; need = told.1.0; range = told.1.1 }
