use Rattle.refusals.proofs.Numbers.{passed_on}
use Rattle.file_words.proofs.Laws.{or_else_err, or_else_ok}
use Rattle.file_header.proofs.Laws.{slice_part}
use Rattle.file.specs.Refusal.{links_refusal, origins_refusal}
use Rattle.file.proofs.check_links.Goals as goal

pub returns-in_err-check : goal.returns-in_err-check
unfolding links_refusal
returns-in_err-check c = rw (passed_on _ c.from_residual.ensures.1) (or_else_err _ _ c.in_err-check.ensures)

pub returns-then-h-eq0 : goal.returns-then-h-eq0
unfolding links_refusal origins_refusal
returns-then-h-eq0 c = or_else_ok c.in_ok-check.ensures (rw c.if-h-eq0.true)

pub returns-in_err-check-2 : goal.returns-in_err-check-2
unfolding links_refusal origins_refusal
returns-in_err-check-2 c =
    rw (passed_on _ c.from_residual-in_err-check-2.ensures.1)
    (or_else_ok c.in_ok-check.ensures (rw (slice_part _ _ c.if-h-eq0.false) (or_else_err _ _ c.in_err-check-2.ensures)))

pub returns : goal.returns
unfolding links_refusal origins_refusal
returns c =
    or_else_ok c.in_ok-check.ensures (rw (slice_part _ _ c.if-h-eq0.false) (or_else_ok c.in_ok-check-2.ensures c.check-3.ensures))
