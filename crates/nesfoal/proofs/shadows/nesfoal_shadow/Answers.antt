use mathlib.Core.Path.{◌∙◌, ap}
use native.Mathlib.Omega.{arith}
use lib.ListN.{length}
use Rattle.promise.specs.Shadow.{ShadowAnswer}
use Rattle.nesfoal.specs.Replays.{replay_code}
use Rattle.nesfoal.proofs.AsFollowed.{followed_fired, followed_stuck}
use Rattle.nesfoal.proofs.shadows.nesfoal_shadow.Goals as goal

pub returns : goal.returns
returns c =
    let a = c.args in
    let e = c.shadow-s.ensures in
    let out = c.shadow-s.new.out in
    let code = c.tell.ensures.answer ∙ ap (λ (x : ShadowAnswer). replay_code x.run) e.answer in
    let index = c.tell.ensures.index ∙ ap (λ (x : ShadowAnswer). x.run.index) e.answer in
    let place = c.tell.ensures.place ∙ ap (λ (x : ShadowAnswer). x.run.place) e.answer in
    let amount = c.tell.ensures.amount ∙ ap (λ (x : ShadowAnswer). x.run.amount) e.answer in
    let count = c.tell.ensures.count ∙ ap (λ (x : ShadowAnswer). x.count) e.answer in
    let fired = followed_fired a.plan.now a.slice.now a.list.now (length a.marking.now) (length a.out.now) out e.answer e.followed code count in
    let stuck = followed_stuck a.plan.now a.slice.now a.list.now (length a.marking.now) (length a.out.now) out e.answer e.followed code count in
    record { answer = code; marking = e.marking; output = e.output; index = index; place = place; amount = amount; count = count; fired = fired; short = stuck 100 (omega arith); full = stuck 101 (omega arith) }
