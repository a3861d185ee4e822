use native.Mathlib.Omega.{arith}
use Rattle.plan_put.proofs.Laws.{no_room, room}
use Rattle.normal.proofs.Turns.{few, file_long, arcs_long, file_stored}
use Rattle.normal.proofs.write_parts.Goals as goal

pub overflow_mul-arcs : goal.overflow_mul-arcs
overflow_mul-arcs c = omega (arith, few c.args.plan.now c.args.h c.requires.sound, c.requires.arcs_value)

pub overflow_add-start : goal.overflow_add-start
overflow_add-start c = omega (arith, few c.args.plan.now c.args.h c.requires.sound, c.requires.arcs_value, c.requires.sound.placed.places)

pub overflow_add-start-2 : goal.overflow_add-start-2
overflow_add-start-2 c = omega (arith, few c.args.plan.now c.args.h c.requires.sound, c.requires.arcs_value, c.requires.sound.placed.places)

pub returns-then-buffer-start : goal.returns-then-buffer-start
returns-then-buffer-start c = no_room _ _ (omega (arith, file_long c.args.plan.now c.args.h, c.requires.arcs_value, c.if-buffer-start.true))

pub write_arcs-requires-clause-h_in_bounds : goal.write_arcs-requires-clause-h_in_bounds
write_arcs-requires-clause-h_in_bounds c = omega (arith, c.if-buffer-start.false, arcs_long c.args.plan.now c.args.h, c.requires.arcs_value)

pub put_end-end-requires-clause-edition_bound : goal.put_end-end-requires-clause-edition_bound
put_end-end-requires-clause-edition_bound c = (omega arith, c.requires.sound.placed.places, omega (arith, few c.args.plan.now c.args.h c.requires.sound, c.requires.arcs_value))

pub overflow_cast-bytes : goal.overflow_cast-bytes
overflow_cast-bytes c = omega (arith, c.put_end-end.ensures.value, few c.args.plan.now c.args.h c.requires.sound, c.requires.arcs_value, c.requires.sound.placed.places)

pub returns : goal.returns
returns c =
    let long = file_long c.args.plan.now c.args.h in
    room _ _ (omega (arith, long, c.requires.arcs_value, c.if-buffer-start.false))
    (file_stored c.args.plan.now c.args.h _ c.requires.arcs_value c.write_places.ensures c.write_arcs.ensures c.put_end-end.ensures.s_after)
    (omega (arith, c.put_end-end.ensures.value, long, c.requires.arcs_value))
