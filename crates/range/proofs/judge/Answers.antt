use mathlib.Core.Path.{sym, ap, ◌∙◌}
use Rattle.promise.specs.Range.{range_told}
use Rattle.range.proofs.Need.{for_every, for_partly, for_never}
use Rattle.range.proofs.judge.Goals as goal

pub returns-then-in_marking : goal.returns-then-in_marking
returns-then-in_marking c = ap range_told (sym (for_every _ _ _ (sym c.in_marking.ensures ∙ c.if-in_marking.true)))

pub returns-then-in_upper : goal.returns-then-in_upper
returns-then-in_upper c =
    ap range_told (sym (for_partly _ _ _ (sym c.in_marking.ensures ∙ c.if-in_marking.false) (sym c.in_upper.ensures ∙ c.if-in_upper.true)))

pub returns : goal.returns
returns c = ap range_told (sym (for_never _ _ _ (sym c.in_marking.ensures ∙ c.if-in_marking.false) (sym c.in_upper.ensures ∙ c.if-in_upper.false)))
