-- No two answers have the same numbers.
use mathlib.Core.Path.{◌≡◌, sym, ap}
use Rattle.std.specs.Prelude.{Ok, Err}
use Rattle.refusals.proofs.Numbers.{number_apart}
use Rattle.promise.specs.Calls.{CutAnswer}
use Rattle.promise.proofs.Replays.{differ}
use Rattle.slice.specs.Kept.{ToldApart}
use Rattle.slice.specs.declared.Written.{Written}

abbrev written_from : CutAnswer → Written
written_from a = record { length = a.length; places = a.places; transitions = a.transitions }

pub told-apart : ToldApart
told-apart (Ok v) (Ok w) e = ap Ok (let same : v ≡ w = ap written_from e in same)
told-apart (Ok v) (Err f) e = differ (ap (λ (x : CutAnswer). x.refused) e)
told-apart (Err d) (Ok w) e = differ (sym (ap (λ (x : CutAnswer). x.refused) e))
told-apart (Err d) (Err f) e = ap Err (number_apart d f (ap (λ (x : CutAnswer). x.refusal) e))
