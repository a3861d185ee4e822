use mathlib.Core.Path.{◌∙◌}
use Rattle.range.specs.Told.{range_numbers}
use Rattle.replay.specs.Told.{outcome_numbers}
use Rattle.clients_range.proofs.Concluded.{agrees, none_differ}
use Rattle.clients_range.proofs.agree.Goals as goal

pub returns : goal.returns
returns c =
    let told = range_numbers c.range-a.result in
    let replayed = outcome_numbers c.replay-o.result in
    c.agreed.ensures ∙ none_differ told.refused replayed.refused told.every replayed.stuck (λ x y. agrees _ _ _ _ _ c.range-a.ensures.answer c.range-a.ensures.range x c.replay-o.ensures.answer y)
