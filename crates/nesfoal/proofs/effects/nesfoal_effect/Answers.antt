use mathlib.Core.Path.{◌∙◌, ap}
use Rattle.promise.specs.Firing.{EffectAnswer}
use Rattle.nesfoal.proofs.effects.nesfoal_effect.Goals as goal

pub returns : goal.returns
returns c =
    record { answer = c.tell.ensures.answer ∙ ap (λ (x : EffectAnswer). x.refusal) c.effect-c.ensures; effect = c.tell.ensures.effect ∙ ap (λ (x : EffectAnswer). x.effect) c.effect-c.ensures }
