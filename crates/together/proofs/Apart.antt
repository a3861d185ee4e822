-- No two answers have the same numbers.
use mathlib.Core.Path.{◌≡◌, refl, sym, ap, ◌∙◌}
use mathlib.Core.Bool.{Bool, true, false}
use Rattle.std.proofs.Common.{Ok, Err}
use Rattle.refusals.proofs.Numbers.{number_apart}
use Rattle.promise.specs.Together.{TogetherAnswer}
use Rattle.promise.proofs.Replays.{differ}
use Rattle.together.specs.Told.{taken_numbers, ToldApart}
use Rattle.together.specs.declared.Together.{Together}
use Rattle.together.specs.declared.Together.TheVariants.{Times, Unlimited}

abbrev by : Bool → TogetherAnswer → Together
by true a = Unlimited
by false a = Times a.times

-- the answer that has these numbers
abbrev taken_of : TogetherAnswer → Together
taken_of a = by a.unlimited a

recovered : (r : Together) → taken_of (taken_numbers r) ≡ r
recovered (Times k) = refl
recovered Unlimited = refl

-- a number of times is no refusal
taken-whole : (r : Together) → (taken_numbers r).refused ≡ false
taken-whole (Times k) = refl
taken-whole Unlimited = refl

pub told-apart : ToldApart
told-apart (Ok a) (Ok b) e = ap Ok (sym (recovered a) ∙ ap taken_of e ∙ recovered b)
told-apart (Ok a) (Err f) e = differ (sym (taken-whole a) ∙ ap (λ (x : TogetherAnswer). x.refused) e)
told-apart (Err d) (Ok b) e = differ (sym (ap (λ (x : TogetherAnswer). x.refused) e ∙ taken-whole b))
told-apart (Err d) (Err f) e = ap Err (number_apart d f (ap (λ (x : TogetherAnswer). x.refusal) e))
