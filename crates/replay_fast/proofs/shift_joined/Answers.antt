use Rattle.std.proofs.Common.{refl, sym, ◌∙◌}
use Rattle.replay_fast.proofs.Moving.{change_is, place_is, place_inside, holding_none, holding_still, holding_other, holding_more}
use Rattle.replay_fast.proofs.shift_joined.Goals as goal
use Rattle.replay_fast.proofs.shift_joined.Goals.{then-q-p, else-q-p}

-- The marking is that of `shift`, with the entry in hand put at its place.

-- the place of the first arc
pub bounds-marking-p : goal.bounds-marking-p
bounds-marking-p c = place_inside c.requires.movable c.args.from c.if-to-from.false (place_is c.requires.moves_of c.requires.movable c.args.from c.if-to-from.false c.entry-p.ensures.0) refl

pub loop-j-init : goal.loop-j-init
loop-j-init c =
    holding_none (place_inside c.requires.movable c.args.from c.if-to-from.false (place_is c.requires.moves_of c.requires.movable c.args.from c.if-to-from.false c.entry-p.ensures.0) refl)
    c.requires.movable.fits

-- another place
pub bounds-marking-q : goal.bounds-marking-q
bounds-marking-q c =
    place_inside c.requires.movable c.loop-j.j c.loop-j-test.true (place_is c.requires.moves_of c.requires.movable c.loop-j.j c.loop-j-test.true c.entry-q.ensures.0)
    c.loop-j.invariant.shifting.moving.moved.long

-- the arc
pub loop-j-preserved : goal.loop-j-preserved
loop-j-preserved c =
    let can = c.requires.movable in
    let l = c.loop-j-test.true in
    let inv = c.loop-j.invariant in
    let change = change_is c.requires.moves_of can c.loop-j.j l c.signed-c.ensures in
    let place = place_is c.requires.moves_of can c.loop-j.j l c.entry-q.ensures.0 in
    elim c.if-q-p.branch [
      | then-q-p w ↦ holding_more can l (holding_other inv (place_inside can c.loop-j.j l place refl) w.marking-is w.p-is w.value-is) change (w.p-is ∙ place)
      | else-q-p w ↦ holding_more can l (holding_still inv w.marking-is w.p-is w.value-is) change (w.p-is ∙ sym w.if-q-p.false ∙ place)
    ]
