-- No two outcomes have the same numbers.
use mathlib.Core.Path.{◌≡◌, refl, sym, ap, ◌∙◌}
use mathlib.Core.Bool.{Bool, true, false}
use Rattle.std.proofs.Common.{Ok, Err}
use Rattle.refusals.proofs.Numbers.{number_apart}
use Rattle.promise.specs.Firing.{ReplayAnswer}
use Rattle.promise.proofs.Replays.{differ}
use Rattle.replay.specs.Told.{ended_numbers, ToldApart}
use Rattle.replay.specs.declared.Outcome.{Outcome}
use Rattle.replay.specs.declared.Outcome.TheVariants.{Fired, Short, Full}

abbrev by : Bool → Bool → ReplayAnswer → Outcome
by true true a = Full a.index a.place a.amount
by true false a = Short a.index a.place a.amount
by false full a = Fired

-- the end that has these numbers
abbrev ended_of : ReplayAnswer → Outcome
ended_of a = by a.stuck a.full a

recovered : (o : Outcome) → ended_of (ended_numbers o) ≡ o
recovered Fired = refl
recovered (Short i p n) = refl
recovered (Full i p n) = refl

-- an end is no refusal
pub ended-whole : (o : Outcome) → (ended_numbers o).refused ≡ false
ended-whole Fired = refl
ended-whole (Short i p n) = refl
ended-whole (Full i p n) = refl

pub told-apart : ToldApart
told-apart (Ok a) (Ok b) e = ap Ok (sym (recovered a) ∙ ap ended_of e ∙ recovered b)
told-apart (Ok a) (Err f) e = differ (sym (ended-whole a) ∙ ap (λ (x : ReplayAnswer). x.refused) e)
told-apart (Err d) (Ok b) e = differ (sym (ap (λ (x : ReplayAnswer). x.refused) e ∙ ended-whole b))
told-apart (Err d) (Err f) e = ap Err (number_apart d f (ap (λ (x : ReplayAnswer). x.refusal) e))
