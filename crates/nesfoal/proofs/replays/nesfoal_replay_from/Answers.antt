use mathlib.Core.Path.{◌∙◌, ap}
use Rattle.promise.specs.Firing.{ReplayAnswer}
use Rattle.nesfoal.specs.Replays.{replay_code}
use Rattle.nesfoal.proofs.replays.nesfoal_replay_from.Goals as goal

pub returns : goal.returns
returns c =
    let e = c.replay_from-o.ensures in
    record { answer = c.tell.ensures.answer ∙ ap replay_code e.answer; marking = e.marking; index = c.tell.ensures.index ∙ ap (λ (a : ReplayAnswer). a.index) e.answer; place = c.tell.ensures.place ∙ ap (λ (a : ReplayAnswer). a.place) e.answer; amount = c.tell.ensures.amount ∙ ap (λ (a : ReplayAnswer). a.amount) e.answer }
