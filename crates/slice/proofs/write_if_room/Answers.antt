use mathlib.Core.Path.{ap}
use native.Mathlib.Omega.{arith}
use lib.ListN.{length}
use Rattle.net.specs.Slice.{keeping}
use Rattle.file.specs.Layout.{net_from}
use Rattle.slice.proofs.Laws.{arcs_known, arcs_are, few_arcs, file_length, no_room}
use Rattle.slice.proofs.write_if_room.Goals as goal

-- room for all of the plan's arcs
pub write_parts-requires-clause-ts_in_bounds : goal.write_parts-requires-clause-ts_in_bounds
write_parts-requires-clause-ts_in_bounds c =
    let a = c.args in
    let long = file_length a.h.edition (net_from a.plan.now a.h) a.ps.now a.ts.now in
    omega (arith, long, c.places_length.ensures.0, few_arcs a.plan.now a.h a.ps.now a.ts.now, c.if-rest-h.true)

-- room for those that are kept, or none
pub count_arcs-arcs-requires : goal.count_arcs-arcs-requires
count_arcs-arcs-requires c = arcs_known _ _ c.requires.sound _ _ _ _ c.requires.tables

pub overflow_mul-arcs : goal.overflow_mul-arcs
overflow_mul-arcs c =
    let a = c.args in
    omega (arith, c.count_arcs-arcs.ensures, ap length (arcs_are _ _ c.requires.sound _ _ _ _ c.requires.tables), few_arcs a.plan.now a.h a.ps.now a.ts.now, c.requires.sound.placed.arcs)

pub overflow_add-rest-5 : goal.overflow_add-rest-5
overflow_add-rest-5 c =
    let a = c.args in
    let arcs = ap length (arcs_are _ _ c.requires.sound _ _ _ _ c.requires.tables) in
    omega (arith, c.count_arcs-arcs.ensures, arcs, few_arcs a.plan.now a.h a.ps.now a.ts.now, c.requires.sound.placed.arcs, c.places_length.ensures.1, c.requires.lists.few_places, c.requires.lists.few_transitions)

pub returns-then-buffer-rest : goal.returns-then-buffer-rest
returns-then-buffer-rest c =
    let a = c.args in
    let N = net_from a.plan.now a.h in
    let arcs = ap length (arcs_are _ _ c.requires.sound _ _ _ _ c.requires.tables) in
    no_room a.h.edition (keeping N a.ps.now a.ts.now) a.buffer.now
    (omega (arith, file_length a.h.edition N a.ps.now a.ts.now, c.places_length.ensures.0, c.count_arcs-arcs.ensures, arcs, c.if-buffer-rest.true))

pub write_parts-requires-2-clause-ts_in_bounds : goal.write_parts-requires-2-clause-ts_in_bounds
write_parts-requires-2-clause-ts_in_bounds c =
    let a = c.args in
    let long = file_length a.h.edition (net_from a.plan.now a.h) a.ps.now a.ts.now in
    let arcs = ap length (arcs_are _ _ c.requires.sound _ _ _ _ c.requires.tables) in
    omega (arith, long, c.places_length.ensures.0, c.count_arcs-arcs.ensures, arcs, c.if-buffer-rest.false)
