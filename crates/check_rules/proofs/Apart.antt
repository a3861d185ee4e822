-- No two outcomes have the same numbers.
use Prim.Native.Nat.{ℕ, ◌-◌}
use mathlib.Core.Path.{◌≡◌, refl, sym, ap, ◌∙◌}
use mathlib.Core.List.{List, [], ◌∷◌}
use lib.ListN.{get_or}
use Rattle.promise.specs.Calls.{Checked}
use Rattle.check_rules.specs.Answer.{outcome_numbers, OutcomesApart}
use Rattle.check_rules.specs.declared.Outcome.{Outcome}
use Rattle.check_rules.specs.declared.Outcome.TheVariants.{Accepted, UnknownPlace, UnknownTransition, OtherMarking, OtherArcs, CriterionMissing, ChangerMissing, InputMissing, RaiserMissing, OutputMissing, CapChangerMissing}

-- accepted, then the rules in order
abbrev cases : List (ℕ → Outcome)
cases =
    (λ n. Accepted) ∷ UnknownPlace ∷ UnknownTransition ∷ OtherMarking ∷ OtherArcs ∷ CriterionMissing ∷ ChangerMissing ∷ InputMissing ∷ RaiserMissing ∷ OutputMissing ∷ CapChangerMissing ∷ []

-- the outcome that has these numbers
abbrev outcome_of : Checked → Outcome
outcome_of c = get_or cases (c.code - 100) (λ n. Accepted) c.number

recovered : (o : Outcome) → outcome_of (outcome_numbers o) ≡ o
recovered Accepted = refl
recovered (UnknownPlace n) = refl
recovered (UnknownTransition n) = refl
recovered (OtherMarking n) = refl
recovered (OtherArcs n) = refl
recovered (CriterionMissing n) = refl
recovered (ChangerMissing n) = refl
recovered (InputMissing n) = refl
recovered (RaiserMissing n) = refl
recovered (OutputMissing n) = refl
recovered (CapChangerMissing n) = refl

pub outcomes_apart : OutcomesApart
outcomes_apart a b e = sym (recovered a) ∙ ap outcome_of e ∙ recovered b
