use mathlib.Core.Path.{◌∙◌}
use Rattle.rules_origins.proofs.Reached.{place-origins}
use Rattle.rules_origins.proofs.Keeping.{unknown_place}
use Rattle.rules_origins.proofs.unknown_place.Goals as goal

pub first_unknown-requires : goal.first_unknown-requires
first_unknown-requires c = place-origins _ _ c.requires.sound c.requires.kind_value

pub returns : goal.returns
returns c = λ N e. c.first_unknown.ensures ∙ unknown_place N _ _ e
