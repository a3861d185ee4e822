use mathlib.Core.Path.{refl}
use native.Mathlib.Omega.{arith}
use lib.ListN.{length-take}
use Rattle.refusals.proofs.Numbers.{number_some}
use Rattle.clients_normal.proofs.Forms.{fits, again_none, again_long, again_bytes}
use Rattle.clients_normal.proofs.stays.Goals as goal

pub slice_bounds-normal-end : goal.slice_bounds-normal-end
slice_bounds-normal-end c = omega (arith, fits _ _ _ c.in-Ok.ensures.answer c.in-Ok.ensures.form refl)

pub slice_bounds-normal-end-2 : goal.slice_bounds-normal-end-2
slice_bounds-normal-end-2 c = simp length-take (omega (arith, fits _ _ _ c.in-Ok.ensures.answer c.in-Ok.ensures.form refl))

pub returns-in-Err : goal.returns-in-Err
returns-in-Err c =
    let f = c.in-Ok.ensures in
    absurd (number_some _ (again_none _ _ _ f.answer f.form refl c.args.two.now refl c.if-two-end.false c.in-Err.ensures.answer))

pub returns-then-m-n : goal.returns-then-m-n
returns-then-m-n c =
    let f = c.in-Ok.ensures in
    absurd (c.if-m-n.true (again_long _ _ _ f.answer f.form refl c.args.two.now refl c.if-two-end.false c.in-Ok-normal.ensures.answer))

pub equal-requires : goal.equal-requires
equal-requires c =
    let f = c.in-Ok.ensures in
    let s = c.in-Ok-normal.ensures in
    record { n_in_bounds = omega (arith, fits _ _ _ f.answer f.form refl); n_in_bounds_2 = omega (arith, c.if-m-n.false, fits _ _ _ s.answer s.form refl) }

pub returns-else-m-n : goal.returns-else-m-n
returns-else-m-n c =
    let f = c.in-Ok.ensures in
    let s = c.in-Ok-normal.ensures in
    c.equal.ensures.1 (again_bytes _ _ _ f.answer f.form refl c.args.two.now refl c.if-two-end.false s.answer s.buffer)
