use Rattle.pnml_text.proofs.Runs as runs
use Rattle.std.proofs.Common.{sym, ◌∙◌}
use Rattle.pnml_text.proofs.word.Goals as goal

pub returns-then-n-at : goal.returns-then-n-at
returns-then-n-at c = rw (runs.rest_out c.args.text.now c.args.at c.if-n-at.true)

pub returns-then-starts_with : goal.returns-then-starts_with
returns-then-starts_with c = runs.word_in c.args.text.now c.args.w.now c.args.at c.if-n-at.false (sym c.starts_with.ensures.value ∙ c.if-starts_with.true)

pub returns-else-starts_with : goal.returns-else-starts_with
returns-else-starts_with c = runs.word-out c.args.text.now c.args.w.now c.args.at c.if-n-at.false (sym c.starts_with.ensures.value ∙ c.if-starts_with.false)
