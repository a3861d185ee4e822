use Rattle.std.proofs.Common.{arith, sym, ◌∙◌}
use Rattle.pnml_names.proofs.Ids.{within}
use Rattle.pnml_index.proofs.Searching as searching
use Rattle.pnml_index.proofs.sum.Goals as goal

pub overflow_add-i : goal.overflow_add-i
overflow_add-i c = omega (arith, within c.args.text.now c.loop-x.i (sym c.in-Some.is ∙ c.character.ensures))

pub loop-x-smaller : goal.loop-x-smaller
loop-x-smaller c = omega (arith, within c.args.text.now c.loop-x.i (sym c.in-Some.is ∙ c.character.ensures))

pub loop-x-preserved : goal.loop-x-preserved
loop-x-preserved c = rw c.from.ensures (searching.sum-on c.loop-x.invariant (sym c.in-Some.is ∙ c.character.ensures))

pub returns : goal.returns
returns c = (searching.sum-end c.loop-x.invariant (sym c.in_default.is ∙ c.character.ensures), c.loop-x.invariant.small)
