use mathlib.Core.Path.{sym}
use Rattle.refusals.proofs.Numbers.{passed_on}
use Rattle.file_header.specs.declared.Due.TheVariants as due
use Rattle.file.proofs.Opening.{opened_ok, turned_back_lem}
use Rattle.call_cuts.proofs.Cutting.{by_file, by_criterion, branching-refused, branching-untouched, branching-within, branching-written}
use Rattle.call_cuts.proofs.cuts.branching.Goals as goal

pub returns-in_default : goal.returns-in_default
returns-in_default c =
    let t = turned_back_lem due.Plan _ c.read-read.ensures c.unwrap_err.ensures in
    let e = by_file _ c.args.criterion.now t.0 t.1 in
    record { answer = branching-refused _ _ _ e _; buffer = branching-untouched _ _ _ e _ }

pub returns-in_err-check : goal.returns-in_err-check
returns-in_err-check c =
    let e = by_criterion _ _ _ (opened_ok due.Plan _ c.in-Ok.ensures) c.in_err-check.ensures in
    rw (passed_on _ c.from_residual.ensures.1) (record { answer = branching-refused _ _ _ e _; buffer = branching-untouched _ _ _ e _ })

pub kept-kept-requires : goal.kept-kept-requires
kept-kept-requires c = record { sound = (opened_ok due.Plan _ c.in-Ok.ensures).good; criterion_value = sym c.in_ok-check.ensures }

pub write-requires : goal.write-requires
write-requires c =
    let o = opened_ok due.Plan _ c.in-Ok.ensures in
    record { sound = o.good; within = branching-within _ _ _ o (sym c.in_ok-check.ensures) _ c.kept-kept.ensures }

pub returns : goal.returns
returns c =
    let w = c.write in
    let told = branching-written _ _ _ (opened_ok due.Plan _ c.in-Ok.ensures) (sym c.in_ok-check.ensures) _ _ _ w.result (record { answer = w.ensures.answer; buffer = w.ensures.buffer }) c.kept-kept.ensures in
    record { answer = told.0; buffer = told.1 }
