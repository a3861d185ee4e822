use mathlib.Core.Path.{◌∙◌, ap}
use Rattle.promise.specs.RunCut.{RunAnswer}
use Rattle.nesfoal.proofs.AsRead.{run-for_c}
use Rattle.nesfoal.proofs.recorded.nesfoal_run_cut.Goals as goal

pub returns : goal.returns
returns c =
    let s = c.run_cut-c.ensures in
    let e = s.answer in
    let er = c.tell.ensures.answer ∙ ap (λ (a : RunAnswer). a.refusal) e in
    let en = c.tell.ensures.long ∙ ap (λ (a : RunAnswer). a.length) e in
    let ep = c.tell.ensures.places ∙ ap (λ (a : RunAnswer). a.places) e in
    let et = c.tell.ensures.transitions ∙ ap (λ (a : RunAnswer). a.transitions) e in
    let ec = c.tell.ensures.count ∙ ap (λ (a : RunAnswer). a.count) e in
    let ei = c.tell.ensures.index ∙ ap (λ (a : RunAnswer). a.index) e in
    let eq = c.tell.ensures.place ∙ ap (λ (a : RunAnswer). a.place) e in
    let em = c.tell.ensures.amount ∙ ap (λ (a : RunAnswer). a.amount) e in
    record { answer = er; buffer = s.buffer; positions = s.positions; long = en; places = ep; transitions = et; count = ec; index = ei; place = eq; amount = em; feeds = run-for_c _ _ _ _ e s.feeds er en ep et ec ei eq em }
