use mathlib.Core.Path.{sym, ◌∙◌}
use Rattle.file_header.specs.declared.Due.TheVariants as due
use Rattle.file.proofs.Opening.{opened_ok}
use Rattle.call_firing.proofs.ArcRuns.{not-read, plan_refused, slice_refused, of_slice, of_plan}
use Rattle.call_firing.proofs.runs.arcs.Goals as goal

pub returns-in_default : goal.returns-in_default
returns-in_default c = c.no_run.ensures ∙ sym (plan_refused _ _ _ _ (not-read due.Plan _ c.in_default.ensures))

pub returns-in_default-read : goal.returns-in_default-read
returns-in_default-read c =
    c.no_run-in_default-read.ensures ∙ sym (slice_refused _ _ _ _ (opened_ok due.Plan _ c.in-Ok.ensures).read (not-read due.Slice _ c.in_default-read.ensures))

pub run-requires : goal.run-requires
run-requires c = (opened_ok due.Slice _ c.in-Ok-read.ensures).good

pub returns-then-inslice : goal.returns-then-inslice
returns-then-inslice c = rw c.if-inslice.true (c.run.ensures ∙ sym (of_slice _ _ _ _ (opened_ok due.Plan _ c.in-Ok.ensures) (opened_ok due.Slice _ c.in-Ok-read.ensures) _))

pub run-requires-2 : goal.run-requires-2
run-requires-2 c = (opened_ok due.Plan _ c.in-Ok.ensures).good

pub returns : goal.returns
returns c = rw c.if-inslice.false (c.run-2.ensures ∙ sym (of_plan _ _ _ _ (opened_ok due.Plan _ c.in-Ok.ensures) (opened_ok due.Slice _ c.in-Ok-read.ensures) _))
