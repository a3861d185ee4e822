use Rattle.file_header.specs.declared.Due.TheVariants.{Plan}
use Rattle.file.proofs.Opening.{opened_ok, turned_back_lem}
use Rattle.call_firing.proofs.Taken.{file_refused, answered}
use Rattle.call_firing.proofs.takings.together.Goals as goal

pub returns-in_default : goal.returns-in_default
returns-in_default c =
    let told = file_refused c.args.plan.now c.args.transition c.args.marking.now c.args.rest.now _ (turned_back_lem Plan _ c.read-read.ensures c.unwrap_err.ensures).0 in
    record { answer = told.0; rest = told.1.0; largest = told.1.1 }

pub takings-requires : goal.takings-requires
takings-requires c = (opened_ok Plan _ c.in-Ok.ensures).good

pub returns : goal.returns
returns c =
    let told = answered c.args.plan.now c.args.transition c.args.marking.now c.args.rest.now _ (opened_ok Plan _ c.in-Ok.ensures) _ _ c.takings.ensures.answer c.takings.ensures.rest in
    record { answer = told.0; rest = told.1.0; largest = told.1.1 }
