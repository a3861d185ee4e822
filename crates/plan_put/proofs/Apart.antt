-- No two answers have the same numbers.
use mathlib.Core.Path.{sym, ap}
use Rattle.std.specs.Prelude.{Ok, Err}
use Rattle.refusals.proofs.Numbers.{number_apart}
use Rattle.promise.specs.Normal.{FileAnswer}
use Rattle.promise.proofs.Replays.{differ}
use Rattle.plan_put.specs.Told.{ToldApart}

pub told-apart : ToldApart
told-apart (Ok n) (Ok m) e = ap Ok (ap (λ (x : FileAnswer). x.length) e)
told-apart (Ok n) (Err f) e = differ (ap (λ (x : FileAnswer). x.refused) e)
told-apart (Err d) (Ok m) e = differ (sym (ap (λ (x : FileAnswer). x.refused) e))
told-apart (Err d) (Err f) e = ap Err (number_apart d f (ap (λ (x : FileAnswer). x.refusal) e))
