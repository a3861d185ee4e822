use mathlib.Core.Path.{◌∙◌, ap}
use Rattle.promise.specs.Normal.{FileAnswer}
use Rattle.nesfoal.proofs.AsRead.{normal_for_c}
use Rattle.nesfoal.proofs.plans.nesfoal_normal.Goals as goal

pub returns : goal.returns
returns c =
    let s = c.normal-f.ensures in
    let e = s.answer in
    let r = c.tell.ensures.answer ∙ ap (λ (a : FileAnswer). a.refusal) e in
    let n = c.tell.ensures.long ∙ ap (λ (a : FileAnswer). a.length) e in
    record { answer = r; buffer = s.buffer; long = n; form = normal_for_c _ _ e s.form r n }
