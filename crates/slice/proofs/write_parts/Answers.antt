use native.Mathlib.Omega.{arith}
use Rattle.net.specs.Slice.{keeping}
use Rattle.file.specs.Layout.{net_from}
use Rattle.slice.proofs.Laws.{arcs_known, arcs_are, arcs_length, few_arcs, file_length, parts_stored, room, kept-places, kept-transitions}
use Rattle.slice.proofs.write_parts.Goals as goal

pub write_places-requires-clause-ps_in_bounds : goal.write_places-requires-clause-ps_in_bounds
write_places-requires-clause-ps_in_bounds c =
    let a = c.args in
    omega (arith, file_length a.h.edition (net_from a.plan.now a.h) a.ps.now a.ts.now, c.requires.ts_in_bounds)

pub write_arcs-middle-requires-clause-arcs : goal.write_arcs-middle-requires-clause-arcs
write_arcs-middle-requires-clause-arcs c = arcs_known _ _ c.requires.sound _ _ _ _ c.requires.tables

pub write_arcs-middle-requires-clause-count_in_bounds : goal.write_arcs-middle-requires-clause-count_in_bounds
write_arcs-middle-requires-clause-count_in_bounds c =
    let a = c.args in
    let long = file_length a.h.edition (net_from a.plan.now a.h) a.ps.now a.ts.now in
    omega (arith, long, c.requires.ts_in_bounds, arcs_length _ _ c.requires.sound _ _ _ _ c.requires.tables, c.places_length-start.ensures.0)

-- what is written after the arcs
pub overflow_add-end : goal.overflow_add-end
overflow_add-end c =
    let a = c.args in
    let long = file_length a.h.edition (net_from a.plan.now a.h) a.ps.now a.ts.now in
    omega (arith, long, c.requires.ts_in_bounds, arcs_length _ _ c.requires.sound _ _ _ _ c.requires.tables, c.write_arcs-middle.ensures.count, c.places_length-start.ensures.0)

pub overflow_add-body : goal.overflow_add-body
overflow_add-body c =
    let a = c.args in
    let long = file_length a.h.edition (net_from a.plan.now a.h) a.ps.now a.ts.now in
    omega (arith, long, c.requires.ts_in_bounds, arcs_length _ _ c.requires.sound _ _ _ _ c.requires.tables, c.write_arcs-middle.ensures.count, c.places_length-start.ensures.0)

pub write_origins-requires : goal.write_origins-requires
write_origins-requires c =
    let a = c.args in
    let long = file_length a.h.edition (net_from a.plan.now a.h) a.ps.now a.ts.now in
    omega (arith, long, c.requires.ts_in_bounds, arcs_length _ _ c.requires.sound _ _ _ _ c.requires.tables, c.write_arcs-middle.ensures.count, c.places_length-start.ensures.0)

pub write_origins-requires-2 : goal.write_origins-requires-2
write_origins-requires-2 c =
    let a = c.args in
    let long = file_length a.h.edition (net_from a.plan.now a.h) a.ps.now a.ts.now in
    omega (arith, long, c.requires.ts_in_bounds, arcs_length _ _ c.requires.sound _ _ _ _ c.requires.tables, c.write_arcs-middle.ensures.count, c.places_length-start.ensures.0)

pub put_trailer-requires-clause-body_in_bounds : goal.put_trailer-requires-clause-body_in_bounds
put_trailer-requires-clause-body_in_bounds c =
    let a = c.args in
    let long = file_length a.h.edition (net_from a.plan.now a.h) a.ps.now a.ts.now in
    omega (arith, long, c.requires.ts_in_bounds, arcs_length _ _ c.requires.sound _ _ _ _ c.requires.tables, c.write_arcs-middle.ensures.count, c.places_length-start.ensures.0)

-- the numbers of the answer
pub overflow_add-bytes : goal.overflow_add-bytes
overflow_add-bytes c =
    let a = c.args in
    let arcs = few_arcs a.plan.now a.h a.ps.now a.ts.now in
    omega (arith, arcs, c.requires.sound.placed.arcs, arcs_length _ _ c.requires.sound _ _ _ _ c.requires.tables, c.write_arcs-middle.ensures.count, c.places_length-start.ensures, c.requires.lists.few_places, c.requires.lists.few_transitions)

pub overflow_cast-bytes : goal.overflow_cast-bytes
overflow_cast-bytes c =
    let a = c.args in
    let arcs = few_arcs a.plan.now a.h a.ps.now a.ts.now in
    omega (arith, arcs, c.requires.sound.placed.arcs, arcs_length _ _ c.requires.sound _ _ _ _ c.requires.tables, c.write_arcs-middle.ensures.count, c.places_length-start.ensures, c.requires.lists.few_places, c.requires.lists.few_transitions)

pub returns : goal.returns
returns c =
    let a = c.args in
    let e = a.h.edition in
    let N = net_from a.plan.now a.h in
    let ps = a.ps.now in
    let ts = a.ts.now in
    let found = arcs_length _ _ c.requires.sound _ _ _ _ c.requires.tables in
    room e (keeping N ps ts) a.buffer.now _ _ _ _ c.requires.ts_in_bounds
    (parts_stored e N ps ts _ c.places_length-start.result c.write_arcs-middle.result a.buffer.now _ _ _ _ _ (arcs_are _ _ c.requires.sound _ _ _ _ c.requires.tables) c.places_length-start.ensures.0
    c.write_places.ensures c.write_arcs-middle.ensures c.write_origins.ensures c.write_origins-2.ensures c.put_trailer.ensures)
    (omega (arith, found, c.write_arcs-middle.ensures.count, c.places_length-start.ensures.0, file_length e N ps ts)) (kept-places e N ps ts) (kept-transitions e N ps ts)
