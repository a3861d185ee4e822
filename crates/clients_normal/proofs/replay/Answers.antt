use mathlib.Core.Path.{refl, ◌∙◌}
use native.Mathlib.Omega.{arith}
use lib.ListN.{length-take}
use Rattle.clients_normal.proofs.Forms.{fits, same_answer, same_marking}
use Rattle.clients_normal.proofs.replay.Goals as goal

pub slice_bounds-replay-end : goal.slice_bounds-replay-end
slice_bounds-replay-end c = omega (arith, fits _ _ _ c.in-Ok.ensures.answer c.in-Ok.ensures.form refl)

pub slice_bounds-replay-end-2 : goal.slice_bounds-replay-end-2
slice_bounds-replay-end-2 c = simp length-take (omega (arith, fits _ _ _ c.in-Ok.ensures.answer c.in-Ok.ensures.form refl))

pub returns : goal.returns
returns c =
    let n = c.in-Ok.ensures in
    let r = c.replay-2.ensures in
    record { answer = r.answer ∙ same_answer _ _ _ n.answer n.form refl refl _ _; marking = r.marking ∙ same_marking _ _ _ n.answer n.form refl refl _ _ }
