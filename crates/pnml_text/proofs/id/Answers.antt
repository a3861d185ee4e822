use Rattle.pnml_text.proofs.Runs as runs
use Rattle.pnml_text.proofs.id.Goals as goal

pub returns-then-n : goal.returns-then-n
returns-then-n c = runs.id_wrong_lem c.args.text.now c.args.at _ c.run_end-end.ensures c.if-n.true

pub returns : goal.returns
returns c = runs.id_right c.args.text.now c.args.at _ c.run_end-end.ensures c.if-n.false
