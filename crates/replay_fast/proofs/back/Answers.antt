use Rattle.replay_fast.proofs.Moving.{change_is, place_is, place_inside, back_more}
use Rattle.replay_fast.proofs.back.Goals as goal

pub bounds-marking-p : goal.bounds-marking-p
bounds-marking-p c =
    place_inside c.requires.movable c.loop-j.j c.loop-j-test.true (place_is c.requires.moves_of c.requires.movable c.loop-j.j c.loop-j-test.true c.entry-p.ensures.0) c.loop-j.invariant.moved.long

pub bounds-marking-p-in-loop-j : goal.bounds-marking-p-in-loop-j
bounds-marking-p-in-loop-j c =
    place_inside c.requires.movable c.loop-j.j c.loop-j-test.true (place_is c.requires.moves_of c.requires.movable c.loop-j.j c.loop-j-test.true c.entry-p.ensures.0) c.loop-j.invariant.moved.long

pub loop-j-preserved : goal.loop-j-preserved
loop-j-preserved c =
    back_more c.requires.movable c.loop-j.j c.loop-j-test.true (change_is c.requires.moves_of c.requires.movable c.loop-j.j c.loop-j-test.true c.signed-c.ensures) c.loop-j.invariant
    (place_is c.requires.moves_of c.requires.movable c.loop-j.j c.loop-j-test.true c.entry-p.ensures.0) c.signed-c.type_inv
