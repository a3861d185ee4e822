use mathlib.Core.Path.{sym, ap, ◌∙◌}
use lib.ListN.{length}
use Rattle.file_header.specs.declared.Due.TheVariants as due
use Rattle.file.proofs.Opening.{opened_ok}
use Rattle.call_firing.proofs.ArcRuns.{not-read, plan_refused, slice_refused, no_start, of_slice, of_plan, start_of_slice, start_of_plan}
use Rattle.call_firing.proofs.runs.arc_part.Goals as goal

pub returns-in_default : goal.returns-in_default
returns-in_default c =
    let e = plan_refused _ _ _ _ (not-read due.Plan _ c.in_default.ensures) in
    record { start = sym (no_start _ _ _ _ e); length = sym (ap length e) }

pub returns-in_default-read : goal.returns-in_default-read
returns-in_default-read c =
    let e = slice_refused _ _ _ _ (opened_ok due.Plan _ c.in-Ok.ensures).read (not-read due.Slice _ c.in_default-read.ensures) in
    record { start = sym (no_start _ _ _ _ e); length = sym (ap length e) }

pub run_part-r-requires : goal.run_part-r-requires
run_part-r-requires c = (opened_ok due.Slice _ c.in-Ok-read.ensures).good

pub returns-then-inslice : goal.returns-then-inslice
returns-then-inslice c =
    let p = opened_ok due.Plan _ c.in-Ok.ensures in
    let q = opened_ok due.Slice _ c.in-Ok-read.ensures in
    let r = c.run_part-r.ensures in
    record { start = rw c.if-inslice.true (r.start ∙ sym (start_of_slice _ _ _ _ p q _)); length = rw c.if-inslice.true (r.long ∙ sym (ap length (of_slice _ _ _ _ p q _))) }

pub run_part-r-requires-2 : goal.run_part-r-requires-2
run_part-r-requires-2 c = (opened_ok due.Plan _ c.in-Ok.ensures).good

pub returns : goal.returns
returns c =
    let p = opened_ok due.Plan _ c.in-Ok.ensures in
    let q = opened_ok due.Slice _ c.in-Ok-read.ensures in
    let r = c.run_part-r-2.ensures in
    record { start = rw c.if-inslice.false (r.start ∙ sym (start_of_plan _ _ _ _ p q _)); length = rw c.if-inslice.false (r.long ∙ sym (ap length (of_plan _ _ _ _ p q _))) }
