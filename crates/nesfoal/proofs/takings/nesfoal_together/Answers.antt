use mathlib.Core.Path.{◌∙◌, ap}
use Rattle.promise.specs.Together.{TogetherAnswer}
use Rattle.nesfoal.specs.Takings.{together_code}
use Rattle.nesfoal.proofs.AsTaken.{together-for_c}
use Rattle.nesfoal.proofs.takings.nesfoal_together.Goals as goal

pub returns : goal.returns
returns c =
    let e = c.together-a.ensures in
    let r = c.tell.ensures.answer ∙ ap together_code e.answer in
    let k = c.tell.ensures.times ∙ ap (λ (a : TogetherAnswer). a.times) e.answer in
    record { answer = r; rest = e.rest; times = k; largest = together-for_c _ _ _ _ e.answer e.largest r k }
