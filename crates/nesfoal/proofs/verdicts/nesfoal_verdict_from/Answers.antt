use mathlib.Core.Path.{sym, ap, ◌∙◌}
use Rattle.promise.specs.Calls.{Checked}
use Rattle.nesfoal.proofs.verdicts.nesfoal_verdict_from.Goals as goal

pub returns : goal.returns
returns c =
    let v = c.check_from-v.ensures in
    record { answer = c.code.ensures ∙ ap (λ (x : Checked). x.code) v.answer; number = c.number.ensures ∙ ap (λ (x : Checked). x.number) v.answer; guarantee = λ z. v.guarantee (sym c.code.ensures ∙ z) }
