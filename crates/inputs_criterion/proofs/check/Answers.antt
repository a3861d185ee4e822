use Rattle.std.proofs.Common.{sym, ◌∙◌, arith}
use Rattle.file.specs.Criterion.{criterion_refusal}
use Rattle.inputs_criterion.proofs.Places.{list_10, list_on, list_end}
use Rattle.inputs_criterion.proofs.check.Goals as goal

pub returns-then-misplaced : goal.returns-then-misplaced
unfolding criterion_refusal
returns-then-misplaced c =
    sym
    (c.loop-next.invariant.1
    ∙ list_10 _ _ _ _ c.loop-next-test.true _ c.from-x.ensures (sym c.misplaced.ensures ∙ c.if-misplaced.true))

pub loop-next-preserved : goal.loop-next-preserved
loop-next-preserved c = (
  omega (arith, c.from-x.ensures, c.type_inv.q c.loop-next.next-index),
  c.loop-next.invariant.1 ∙ list_on _ _ _ _ c.loop-next-test.true _ c.from-x.ensures (sym c.misplaced.ensures ∙ c.if-misplaced.false),
)

pub returns : goal.returns
unfolding criterion_refusal
returns c = sym (c.loop-next.invariant.1 ∙ list_end _ _ _ _ c.loop-next-test.false)
