use Rattle.pnml_text.proofs.Runs as runs
use Rattle.std.proofs.Common.{sym, ◌∙◌, rules}
use Rattle.pnml_text.proofs.number.Goals as goal

pub returns-then-not-takes : goal.returns-then-not-takes
returns-then-not-takes c = runs.number_stop c.loop-a.invariant c.loop-a-test.true (search rules) ∙ sym (runs.number_of_lem c.args.text.now c.args.at)

pub loop-a-preserved : goal.loop-a-preserved
loop-a-preserved c = runs.number_on c.loop-a.invariant c.loop-a-test.true (search rules) c.push-n.ensures.1 c.push-n.ensures.0

pub returns : goal.returns
returns c = runs.number_end c.loop-a.invariant c.loop-a-test.false ∙ sym (runs.number_of_lem c.args.text.now c.args.at)
