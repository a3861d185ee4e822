use Rattle.std.proofs.Common.{refl, arith}
use Rattle.replay_fast.proofs.Moving.{change_is, place_is, place_inside, shifting_more, shifting_clear}
use Rattle.replay_fast.proofs.shift.Goals as goal

pub bounds-marking-p : goal.bounds-marking-p
bounds-marking-p c =
    place_inside c.requires.movable c.loop-j.j c.loop-j-test.true (place_is c.requires.moves_of c.requires.movable c.loop-j.j c.loop-j-test.true c.entry-p.ensures.0) c.loop-j.invariant.1.moving.moved.long

pub bounds-marking-p-in-loop-j : goal.bounds-marking-p-in-loop-j
bounds-marking-p-in-loop-j c =
    place_inside c.requires.movable c.loop-j.j c.loop-j-test.true (place_is c.requires.moves_of c.requires.movable c.loop-j.j c.loop-j-test.true c.entry-p.ensures.0) c.loop-j.invariant.1.moving.moved.long

-- an arc that leaves a place short
pub returns-then-value-ge9223372036854775808 : goal.returns-then-value-ge9223372036854775808
returns-then-value-ge9223372036854775808 c =
    rw c.loop-j.invariant.0 (record {
      whole = λ a. absurd (omega (arith, a, c.loop-j-test.true));
      part = λ b. (
        c.loop-j.auto.j,
        (shifting_more c.requires.movable c.loop-j.j c.loop-j-test.true c.loop-j.invariant.1 (change_is c.requires.moves_of c.requires.movable c.loop-j.j c.loop-j-test.true c.signed-c.ensures)
            (place_is c.requires.moves_of c.requires.movable c.loop-j.j c.loop-j-test.true c.entry-p.ensures.0)).moving.moved,
      );
    })

-- an arc that does not
pub loop-j-preserved : goal.loop-j-preserved
loop-j-preserved c = (
  refl,
  shifting_clear _ c.if-value-ge9223372036854775808.false
      (shifting_more c.requires.movable c.loop-j.j c.loop-j-test.true c.loop-j.invariant.1 (change_is c.requires.moves_of c.requires.movable c.loop-j.j c.loop-j-test.true c.signed-c.ensures)
      (place_is c.requires.moves_of c.requires.movable c.loop-j.j c.loop-j-test.true c.entry-p.ensures.0)),
)
