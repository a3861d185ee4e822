use Rattle.std.specs.Prelude.{Ok, Err}
use mathlib.Core.Path.{refl, ap, ◌∙◌}
use native.Mathlib.Omega.{arith}
use lib.ListN.{length}
use lib.Seq.{sets}
use Rattle.refusals.proofs.Numbers.{passed_on}
use Rattle.net.specs.Numbers.{selected}
use Rattle.file.specs.Layout.{net_from}
use Rattle.promise.specs.Together.{standing}
use Rattle.sets.specs.Member.{member}
use Rattle.slice.specs.Kept.{kept_pair}
use Rattle.starting.proofs.Places.{as_kept, refused_too, room_for, written_over, passed_kept}
use Rattle.starting.proofs.cuts.write.Goals as goal

-- ---- refused

pub returns-in_err-done : goal.returns-in_err-done
returns-in_err-done c =
    let a = c.args in
    rw (passed_on _ c.from_residual.ensures.1)
    (refused_too a.h.edition (standing a.start.now) (net_from a.plan.now a.h) (selected (member a.places.now) 0 a.h.places) (selected (member a.transitions.now) 0 a.h.transitions) {entry = a.buffer.now} {r = Err c.in_err-done.field-0.0}
    (as_kept a.plan.now a.h (kept_pair a.places.now a.transitions.now) (record { answer = c.in_err-done.ensures.answer; buffer = c.in_err-done.ensures.buffer }))
    refl)

-- ---- the start over the markings

pub put_start-requires-clause-places_in_bounds : goal.put_start-requires-clause-places_in_bounds
put_start-requires-clause-places_in_bounds c =
    let a = c.args in
    let room = room_for a.h.edition (standing a.start.now) (net_from a.plan.now a.h) (selected (member a.places.now) 0 a.h.places) (selected (member a.transitions.now) 0 a.h.transitions) {entry = a.buffer.now} {r = Ok c.in_ok-done.done}
    (as_kept a.plan.now a.h (kept_pair a.places.now a.transitions.now) (record { answer = c.in_ok-done.ensures.answer; buffer = c.in_ok-done.ensures.buffer }))
    refl in
    omega (arith, room, ap length (passed_kept a.h.edition (standing a.start.now) (net_from a.plan.now a.h) (member a.places.now) a.h.places))

pub returns : goal.returns
returns c =
    let a = c.args in
    written_over a.h.edition (standing a.start.now) (net_from a.plan.now a.h) (selected (member a.places.now) 0 a.h.places) (selected (member a.transitions.now) 0 a.h.transitions) {entry = a.buffer.now} {r = Ok c.in_ok-done.done}
    (as_kept a.plan.now a.h (kept_pair a.places.now a.transitions.now) (record { answer = c.in_ok-done.ensures.answer; buffer = c.in_ok-done.ensures.buffer }))
    refl
    (c.put_start.ensures ∙ ap (sets _ 0) (passed_kept a.h.edition (standing a.start.now) (net_from a.plan.now a.h) (member a.places.now) a.h.places))
