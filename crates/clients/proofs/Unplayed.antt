-- Which verdict accepts, and which end of a replay is fired, by their numbers.
use Prim.Native.Nat.{ℕ}
use mathlib.Core.Bool.{false}
use mathlib.Core.Path.{◌≡◌, refl, sym}
use native.Mathlib.Omega.{arith}
use Rattle.check_rules.specs.Answer.{outcome_numbers}
use Rattle.check_rules.specs.declared.Outcome.{Outcome}
use Rattle.check_rules.specs.declared.Outcome.TheVariants.{Accepted, UnknownPlace, UnknownTransition, OtherMarking, OtherArcs, CriterionMissing, ChangerMissing, InputMissing, RaiserMissing, OutputMissing, CapChangerMissing}
use Rattle.replay.specs.Told.{ended_numbers}
use Rattle.replay.specs.declared.Outcome.{Outcome as Ended}
use Rattle.replay.specs.declared.Outcome.TheVariants.{Fired, Short, Full}
use Rattle.promise.proofs.Replays.{differ}

pub accepted_by : (o : Outcome) → (outcome_numbers o).code ≡ 0 → o ≡ Accepted
accepted_by Accepted e = refl
accepted_by (UnknownPlace n) e = absurd (omega (arith, e))
accepted_by (UnknownTransition n) e = absurd (omega (arith, e))
accepted_by (OtherMarking n) e = absurd (omega (arith, e))
accepted_by (OtherArcs n) e = absurd (omega (arith, e))
accepted_by (CriterionMissing n) e = absurd (omega (arith, e))
accepted_by (ChangerMissing n) e = absurd (omega (arith, e))
accepted_by (InputMissing n) e = absurd (omega (arith, e))
accepted_by (RaiserMissing n) e = absurd (omega (arith, e))
accepted_by (OutputMissing n) e = absurd (omega (arith, e))
accepted_by (CapChangerMissing n) e = absurd (omega (arith, e))

pub fired_by : (o : Ended) → (ended_numbers o).stuck ≡ false → o ≡ Fired
fired_by Fired e = refl
fired_by (Short i p n) e = differ (sym e)
fired_by (Full i p n) e = differ (sym e)
