-- No two answers have the same numbers.
use mathlib.Core.Path.{◌≡◌, refl, sym, ap, ◌∙◌}
use mathlib.Core.Bool.{Bool, true, false}
use Rattle.std.specs.Prelude.{Ok, Err}
use Rattle.refusals.proofs.Numbers.{number_apart}
use Rattle.promise.specs.Range.{RangeAnswer}
use Rattle.promise.proofs.Replays.{differ}
use Rattle.range.specs.Told.{range_numbers, ToldApart}
use Rattle.range.specs.declared.Range.{Range}
use Rattle.range.specs.declared.Range.TheVariants.{Every, Partly, Never}

abbrev by : Bool → Bool → Range
by true partly = Every
by false true = Partly
by false false = Never

-- the answer that has these numbers
abbrev range_of : RangeAnswer → Range
range_of a = by a.every a.partly

recovered : (r : Range) → range_of (range_numbers (Ok r)) ≡ r
recovered Every = refl
recovered Partly = refl
recovered Never = refl

answered : (r : Range) → (range_numbers (Ok r)).refused ≡ false
answered Every = refl
answered Partly = refl
answered Never = refl

pub told-apart : ToldApart
told-apart (Ok v) (Ok w) e = ap Ok (let same : v ≡ w = sym (recovered v) ∙ ap range_of e ∙ recovered w in same)
told-apart (Ok v) (Err f) e = differ (sym (answered v) ∙ ap (λ (x : RangeAnswer). x.refused) e)
told-apart (Err d) (Ok w) e = differ (sym (ap (λ (x : RangeAnswer). x.refused) e ∙ answered w))
told-apart (Err d) (Err f) e = ap Err (number_apart d f (ap (λ (x : RangeAnswer). x.refusal) e))
