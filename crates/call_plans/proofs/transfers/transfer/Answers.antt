use Rattle.file_header.specs.declared.Due.TheVariants.{Plan}
use Rattle.file.proofs.Opening.{opened_ok, turned_back_lem}
use Rattle.call_plans.proofs.Carrying.{old_turned, new_turned, both_read}
use Rattle.call_plans.proofs.transfers.transfer.Goals as goal

pub returns-in_default : goal.returns-in_default
returns-in_default c =
    let a = c.args in
    let told = old_turned a.old.now a.new.now a.running.now a.table.now a.marking.now (turned_back_lem Plan _ c.read-first.ensures c.unwrap_err.ensures) in
    record { answer = told.0; marking = told.1.0; carried = told.1.1 }

pub returns-in_default-second : goal.returns-in_default-second
returns-in_default-second c =
    let a = c.args in
    let told = new_turned a.old.now a.new.now a.running.now a.table.now a.marking.now _ (opened_ok Plan _ c.in-Ok.ensures)
    (turned_back_lem Plan _ c.read-second.ensures c.unwrap_err-in_default-second.ensures) in
    record { answer = told.0; marking = told.1.0; carried = told.1.1 }

pub carry-requires : goal.carry-requires
carry-requires c = record { bound = (opened_ok Plan _ c.in-Ok.ensures).good.placed.places; sound = (opened_ok Plan _ c.in-Ok-second.ensures).good }

pub returns : goal.returns
returns c =
    let a = c.args in
    let told = both_read a.old.now a.new.now a.running.now a.table.now a.marking.now _ (opened_ok Plan _ c.in-Ok.ensures) _ (opened_ok Plan _ c.in-Ok-second.ensures) c.carry.ensures.answer c.carry.ensures.marking in
    record { answer = told.0; marking = told.1.0; carried = told.1.1 }
