use Rattle.pnml_text.proofs.Runs as runs
use Rattle.pnml_text.proofs.spaces.Goals as goal

pub returns : goal.returns
returns c = runs.spaces-at c.args.text.now c.args.at _ c.run_end.ensures
