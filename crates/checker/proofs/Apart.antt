-- No two answers of a check have the same numbers.
use mathlib.Core.Path.{◌≡◌, refl, sym, ap, ◌∙◌}
use mathlib.Core.Bool.{false}
use Rattle.std.specs.Prelude.{Ok, Err}
use Rattle.refusals.proofs.Numbers.{number_apart}
use Rattle.promise.specs.Calls.{Checked}
use Rattle.promise.proofs.Replays.{differ}
use Rattle.check_rules.specs.Answer.{outcome_numbers}
use Rattle.check_rules.specs.declared.Outcome.{Outcome}
use Rattle.check_rules.specs.declared.Outcome.TheVariants.{Accepted, UnknownPlace, UnknownTransition, OtherMarking, OtherArcs, CriterionMissing, ChangerMissing, InputMissing, RaiserMissing, OutputMissing, CapChangerMissing}
use Rattle.check_rules.proofs.Apart.{outcomes_apart}
use Rattle.checker.specs.Answer.{ToldApart}

-- an outcome is no refusal
judged : (o : Outcome) → (outcome_numbers o).refused ≡ false
judged Accepted = refl
judged (UnknownPlace n) = refl
judged (UnknownTransition n) = refl
judged (OtherMarking n) = refl
judged (OtherArcs n) = refl
judged (CriterionMissing n) = refl
judged (ChangerMissing n) = refl
judged (InputMissing n) = refl
judged (RaiserMissing n) = refl
judged (OutputMissing n) = refl
judged (CapChangerMissing n) = refl

pub told-apart : ToldApart
told-apart (Ok a) (Ok b) e = ap (λ (o : Outcome). Ok (record { outcome = o })) (outcomes_apart a.outcome b.outcome e)
told-apart (Ok a) (Err f) e = differ (sym (judged a.outcome) ∙ ap (λ (x : Checked). x.refused) e)
told-apart (Err d) (Ok b) e = differ (sym (ap (λ (x : Checked). x.refused) e ∙ judged b.outcome))
told-apart (Err d) (Err f) e = ap Err (number_apart d f (ap (λ (x : Checked). x.code) e))
