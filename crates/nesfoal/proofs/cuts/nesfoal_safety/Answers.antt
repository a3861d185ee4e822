use mathlib.Core.Path.{◌∙◌, ap}
use Rattle.promise.specs.Calls.{CutAnswer}
use Rattle.nesfoal.proofs.AsRead.{safety-for_c}
use Rattle.nesfoal.proofs.cuts.nesfoal_safety.Goals as goal

pub returns : goal.returns
returns c =
    let s = c.safety-c.ensures in
    let e = s.answer in
    let r = c.tell.ensures.answer ∙ ap (λ (a : CutAnswer). a.refusal) e in
    let n = c.tell.ensures.long ∙ ap (λ (a : CutAnswer). a.length) e in
    let p = c.tell.ensures.places ∙ ap (λ (a : CutAnswer). a.places) e in
    let t = c.tell.ensures.transitions ∙ ap (λ (a : CutAnswer). a.transitions) e in
    record { answer = r; buffer = s.buffer; long = n; places = p; transitions = t; smallest = safety-for_c _ _ _ _ e s.smallest r n p t }
