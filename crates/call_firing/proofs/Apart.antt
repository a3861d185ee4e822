-- No two answers of `effect` have the same numbers.
use mathlib.Core.Path.{sym, ap}
use Rattle.std.proofs.Common.{Ok, Err}
use Rattle.refusals.proofs.Numbers.{number_apart}
use Rattle.promise.specs.Firing.{EffectAnswer}
use Rattle.promise.proofs.Replays.{differ}
use Rattle.call_firing.specs.Effect.{ToldApart}

pub told-apart : ToldApart
told-apart (Ok a) (Ok b) e = ap Ok (ap (λ (x : EffectAnswer). x.effect) e)
told-apart (Ok a) (Err f) e = differ (ap (λ (x : EffectAnswer). x.refused) e)
told-apart (Err d) (Ok b) e = differ (sym (ap (λ (x : EffectAnswer). x.refused) e))
told-apart (Err d) (Err f) e = ap Err (number_apart d f (ap (λ (x : EffectAnswer). x.refusal) e))
