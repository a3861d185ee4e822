-- No two answers have the same numbers.
use mathlib.Core.Path.{◌≡◌, refl, sym, ap, ◌∙◌}
use mathlib.Core.Bool.{Bool, true, false}
use Rattle.std.proofs.Common.{Ok, Err}
use Rattle.refusals.proofs.Numbers.{number_apart}
use Rattle.promise.specs.Shadow.{ShadowAnswer}
use Rattle.promise.proofs.Replays.{differ}
use Rattle.shadow.specs.Told.{followed_numbers, ToldApart}
use Rattle.shadow.proofs.Runs.{ended-none}
use Rattle.shadow.specs.declared.Shadow.{Shadow}
use Rattle.shadow.specs.declared.Shadow.TheVariants.{Fired, Short, Full}

abbrev by : Bool → Bool → ShadowAnswer → Shadow
by true true a = Full a.run.index a.run.place a.run.amount a.count
by true false a = Short a.run.index a.run.place a.run.amount a.count
by false full a = Fired a.count

-- the end that has these numbers
abbrev followed_by : ShadowAnswer → Shadow
followed_by a = by a.run.stuck a.run.full a

recovered : (s : Shadow) → followed_by (followed_numbers s) ≡ s
recovered (Fired n) = refl
recovered (Short i p m n) = refl
recovered (Full i p m n) = refl

pub told-apart : ToldApart
told-apart (Ok a) (Ok b) e = ap Ok (sym (recovered a) ∙ ap followed_by e ∙ recovered b)
told-apart (Ok a) (Err f) e = differ (sym (ended-none a) ∙ ap (λ (x : ShadowAnswer). x.run.refused) e)
told-apart (Err d) (Ok b) e = differ (sym (ap (λ (x : ShadowAnswer). x.run.refused) e ∙ ended-none b))
told-apart (Err d) (Err f) e = ap Err (number_apart d f (ap (λ (x : ShadowAnswer). x.run.refusal) e))
