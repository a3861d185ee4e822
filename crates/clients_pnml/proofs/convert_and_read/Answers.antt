use mathlib.Core.Path.{sym, ap, ◌∙◌}
use lib.ListN.{length}
use lib.Seq.{length-take-le}
use Rattle.refusals.proofs.Numbers.{passed_on}
use Rattle.file_header.specs.declared.Due.TheVariants as due
use Rattle.file.proofs.Opening.{opened_ok, turned_back_err}
use Rattle.promise.specs.Normal.{FileAnswer}
use Rattle.clients_pnml.proofs.Written as written
use Rattle.clients_pnml.proofs.convert_and_read.Goals as goal

pub returns-in_err-n : goal.returns-in_err-n
returns-in_err-n c = let e = c.in_err-n.ensures in rw (passed_on _ c.from_residual.ensures.1) (sym (ap (λ (a : FileAnswer). a.refusal) e.answer))

pub slice_bounds-read-end : goal.slice_bounds-read-end
slice_bounds-read-end c = let e = c.in_ok-n.ensures in written.room c.args.text.now e.named

pub slice_bounds-read-end-2 : goal.slice_bounds-read-end-2
slice_bounds-read-end-2 c = let e = c.in_ok-n.ensures in sym (length-take-le _ _ (written.room c.args.text.now e.named))

pub returns-in_default : goal.returns-in_default
returns-in_default c =
    let e = c.in_ok-n.ensures in
    let a = turned_back_err due.Plan _ c.in_default.ensures in
    absurd (a.1 (sym a.0 ∙ written.whole c.args.text.now e.named))

pub returns : goal.returns
returns c = let e = c.in_ok-n.ensures in written.tells c.args.text.now e.named (length c.args.buffer.now) _ (opened_ok due.Plan _ c.in-Ok.ensures)
