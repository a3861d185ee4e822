use mathlib.Core.Path.{◌∙◌, ap}
use Rattle.promise.specs.Normal.{FileAnswer}
use Rattle.nesfoal.proofs.AsRead.{named-for_c}
use Rattle.nesfoal.proofs.plans.nesfoal_from_pnml.Goals as goal

pub returns : goal.returns
returns c =
    let s = c.convert-f.ensures in
    let e = s.answer in
    let r = c.tell.ensures.answer ∙ ap (λ (a : FileAnswer). a.refusal) e in
    let n = c.tell.ensures.long ∙ ap (λ (a : FileAnswer). a.length) e in
    record { answer = r; buffer = s.buffer; long = n; named = named-for_c _ _ e s.named r n }
