use mathlib.Core.Path.{◌∙◌, ap}
use Rattle.promise.specs.Calls.{CutAnswer}
use Rattle.nesfoal.proofs.cuts.nesfoal_branching.Goals as goal

pub returns : goal.returns
returns c =
    let e = c.branching-c.ensures.answer in
    record { answer = c.tell.ensures.answer ∙ ap (λ (a : CutAnswer). a.refusal) e; buffer = c.branching-c.ensures.buffer; long = c.tell.ensures.long ∙ ap (λ (a : CutAnswer). a.length) e; places = c.tell.ensures.places ∙ ap (λ (a : CutAnswer). a.places) e; transitions = c.tell.ensures.transitions ∙ ap (λ (a : CutAnswer). a.transitions) e }
