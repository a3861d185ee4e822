use Rattle.rules_effects.proofs.Columns.{Marked}
use Rattle.rules_effects.proofs.limit_criterion.Given as goal

abbrev pub invariant-loop-place : goal.invariant-loop-place
invariant-loop-place l = Marked l.criterion l.initial.limit l.place-index l.limit
