-- "Accepted, or the broken rule with its number" (document 01, "The checker"), in numbers.
use Rattle.std.specs.Prelude.{true, false, ◌≡◌}
use Rattle.promise.specs.Calls.{Checked}
use Rattle.check_rules.specs.declared.Outcome.{Outcome}
use Rattle.check_rules.specs.declared.Outcome.TheVariants.{Accepted, UnknownPlace, UnknownTransition, OtherMarking, OtherArcs, CriterionMissing, ChangerMissing, InputMissing, RaiserMissing, OutputMissing, CapChangerMissing}

-- "0 accepted, .., 100 plus the rule otherwise", then the place or transition that breaks it
abbrev pub outcome_numbers : Outcome → Checked
outcome_numbers Accepted = record { refused = false; code = 0; number = 0 }
outcome_numbers (UnknownPlace n) = record { refused = false; code = 101; number = n }
outcome_numbers (UnknownTransition n) = record { refused = false; code = 102; number = n }
outcome_numbers (OtherMarking n) = record { refused = false; code = 103; number = n }
outcome_numbers (OtherArcs n) = record { refused = false; code = 104; number = n }
outcome_numbers (CriterionMissing n) = record { refused = false; code = 105; number = n }
outcome_numbers (ChangerMissing n) = record { refused = false; code = 106; number = n }
outcome_numbers (InputMissing n) = record { refused = false; code = 107; number = n }
outcome_numbers (RaiserMissing n) = record { refused = false; code = 108; number = n }
outcome_numbers (OutputMissing n) = record { refused = false; code = 109; number = n }
outcome_numbers (CapChangerMissing n) = record { refused = false; code = 110; number = n }

-- no two outcomes have the same numbers
abbrev pub OutcomesApart : Type 0
OutcomesApart = (a b : Outcome) → outcome_numbers a ≡ outcome_numbers b → a ≡ b
