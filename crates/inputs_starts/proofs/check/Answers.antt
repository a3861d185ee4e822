use Rattle.std.proofs.Common.{sym, ◌∙◌}
use Rattle.inputs_starts.proofs.Steps.{wrong_length, filled}
use Rattle.inputs_starts.proofs.check.Goals as goal

pub returns-then-start-h : goal.returns-then-start-h
returns-then-start-h c = wrong_length _ _ c.if-start-h.true

pub returns-then-overfull : goal.returns-then-overfull
returns-then-overfull c = filled _ _ c.if-start-h.false (sym c.if-overfull.true ∙ c.overfull.ensures)

pub returns : goal.returns
returns c = filled _ _ c.if-start-h.false (sym c.if-overfull.false ∙ c.overfull.ensures)
