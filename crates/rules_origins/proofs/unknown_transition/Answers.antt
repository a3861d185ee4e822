use mathlib.Core.Path.{◌∙◌}
use Rattle.rules_origins.proofs.Reached.{origins_of_transitions}
use Rattle.rules_origins.proofs.Keeping.{unknown_transition}
use Rattle.rules_origins.proofs.unknown_transition.Goals as goal

pub first_unknown-requires : goal.first_unknown-requires
first_unknown-requires c = origins_of_transitions _ _ c.requires.sound c.requires.kind_value

pub returns : goal.returns
returns c = λ N e. c.first_unknown.ensures ∙ unknown_transition N _ _ e
