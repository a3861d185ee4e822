use Rattle.pnml_text.proofs.Runs as runs
use Rattle.pnml_text.proofs.digits.Goals as goal

pub returns-then-end-at : goal.returns-then-end-at
returns-then-end-at c = runs.digits-wrong c.args.text.now c.args.at _ c.run_end-end.ensures c.if-end-at.true

pub returns : goal.returns
returns c = runs.digits-right c.args.text.now c.args.at _ c.run_end-end.ensures c.if-end-at.false
