-- No two answers have the same numbers.
use mathlib.Core.Path.{◌≡◌, refl, sym, ap, ◌∙◌}
use mathlib.Core.Bool.{Bool, true, false}
use Rattle.std.specs.Prelude.{Ok, Err}
use Rattle.refusals.proofs.Numbers.{number_apart}
use Rattle.promise.specs.RunCut.{RunAnswer}
use Rattle.promise.proofs.Replays.{differ}
use Rattle.run_cut.specs.Told.{run_numbers, ToldApart}
use Rattle.run_cut.specs.declared.RunCut.{RunCut}
use Rattle.run_cut.specs.declared.RunCut.TheVariants.{Written, Sticks}

abbrev by : Bool → RunAnswer → RunCut
by false a = Written a.length a.places a.transitions a.count
by true a = Sticks a.index a.place a.amount

-- the answer that has these numbers, where nothing is refused
abbrev cut_from : RunAnswer → RunCut
cut_from a = by a.stuck a

recovered : (r : RunCut) → cut_from (run_numbers (Ok r)) ≡ r
recovered (Written n p t c) = refl
recovered (Sticks i p n) = refl

pub told-apart : ToldApart
told-apart (Ok a) (Ok b) e = ap Ok (sym (recovered a) ∙ ap cut_from e ∙ recovered b)
told-apart (Ok (Written n p t c)) (Err f) e = differ (ap (λ (x : RunAnswer). x.refused) e)
told-apart (Ok (Sticks i p n)) (Err f) e = differ (sym (ap (λ (x : RunAnswer). x.stuck) e))
told-apart (Err d) (Ok (Written n p t c)) e = differ (sym (ap (λ (x : RunAnswer). x.refused) e))
told-apart (Err d) (Ok (Sticks i p n)) e = differ (ap (λ (x : RunAnswer). x.stuck) e)
told-apart (Err d) (Err f) e = ap Err (number_apart d f (ap (λ (x : RunAnswer). x.refusal) e))
