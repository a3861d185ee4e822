use Rattle.std.proofs.Common.{sym, ◌∙◌}
use Rattle.pnml_index.proofs.Searching as searching
use Rattle.pnml_index.proofs.index.Goals as goal

pub loop-k-init : goal.loop-k-init
loop-k-init c = searching.indexing_none c.requires

pub returns-then-is_some-clause-answer : goal.returns-then-is_some-clause-answer
returns-then-is_some-clause-answer c = searching.twice c.loop-k.invariant c.loop-k-test.true c.from-a.ensures c.sum-h.ensures.0 c.sum-h.ensures.1 c.from.ensures c.seek.result c.seek.ensures (sym c.is_some.ensures ∙ c.if-is_some.true)

pub loop-k-preserved : goal.loop-k-preserved
loop-k-preserved c = searching.indexed_as c.loop-k.invariant c.loop-k-test.true c.from-a.ensures c.sum-h.ensures.0 c.sum-h.ensures.1 c.from.ensures c.from.ensures c.seek.result c.seek.ensures (sym c.is_some.ensures ∙ c.if-is_some.false)
