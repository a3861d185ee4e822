use Rattle.std.proofs.Common.{◌+◌, ◌%◌, get_or, refl, arith}
use lib.Bits.{bit_or}
use Rattle.replay_fast.proofs.Signs.{all-was}
use Rattle.replay_fast.proofs.Moving.{change_is, place_is, place_inside, shifting_more}
use Rattle.replay_fast.proofs.Caps.{shifting_over, last_now, roomy_next}
use Rattle.replay_fast.proofs.shift_capped.Goals as goal

pub bounds-marking-p : goal.bounds-marking-p
bounds-marking-p c =
    place_inside c.requires.movable c.loop-j.j c.loop-j-test.true (place_is c.requires.moves_of c.requires.movable c.loop-j.j c.loop-j-test.true c.entry-p.ensures.0) c.loop-j.invariant.0.moving.moved.long

pub bounds-marking-p-in-loop-j : goal.bounds-marking-p-in-loop-j
bounds-marking-p-in-loop-j c =
    place_inside c.requires.movable c.loop-j.j c.loop-j-test.true (place_is c.requires.moves_of c.requires.movable c.loop-j.j c.loop-j-test.true c.entry-p.ensures.0) c.loop-j.invariant.0.moving.moved.long

pub cap-requires-clause-place_lt_places : goal.cap-requires-clause-place_lt_places
cap-requires-clause-place_lt_places c = omega (
  arith,
  place_inside c.requires.movable c.loop-j.j c.loop-j-test.true (place_is c.requires.moves_of c.requires.movable c.loop-j.j c.loop-j-test.true c.entry-p.ensures.0) refl,
  c.requires.movable.held,
)

pub loop-j-preserved : goal.loop-j-preserved
loop-j-preserved c =
    let can = c.requires.movable in
    let mv = c.requires.moves_of in
    let at = c.loop-j in
    let l = c.loop-j-test.true in
    let place = place_is mv can at.j l c.entry-p.ensures.0 in
    let v = (get_or at.marking c.entry-p.result 0 + c.signed-c.result) % 18446744073709551616 in (
      shifting_over (shifting_more can at.j l at.invariant.0 (change_is mv can at.j l c.signed-c.ensures) place) c.excess-over.result,
      λ n.
          let low = all-was (bit_or at.all v) c.excess-over.result n in
          let now = last_now at.all v low in
          let over = last_now (bit_or at.all v) c.excess-over.result n in
          roomy_next (at.invariant.1 (all-was at.all v low)) place (place_inside can at.j l place at.invariant.0.moving.moved.long) v
          (λ some. omega (arith, c.cap.ensures.0, c.excess-over.ensures over now (omega (arith, c.cap.ensures.0, some)))),
    )
