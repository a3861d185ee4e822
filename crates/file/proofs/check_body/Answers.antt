use Rattle.refusals.proofs.Numbers.{passed_on}
use Rattle.file_words.proofs.Laws.{or_else_err, or_else_ok}
use Rattle.file.specs.Refusal.{body_refusal}
use Rattle.file.proofs.check_body.Goals as goal

pub returns-in_err-check_caps : goal.returns-in_err-check_caps
unfolding body_refusal
returns-in_err-check_caps c = rw (passed_on _ c.from_residual.ensures.1) (or_else_err _ _ c.in_err-check_caps.ensures)

pub returns : goal.returns
unfolding body_refusal
returns c = or_else_ok c.in_ok-check_caps.ensures c.check_links.ensures
