use Prim.Native.Nat.{◌<◌}
use mathlib.Core.Path.{sym, ◌∙◌}
use native.Mathlib.Omega.{arith}
use lib.ListN.{length}
use Rattle.file.proofs.Criterion.{passed}
use Rattle.numbering.proofs.Lookup.{left_out, is_kept}
use Rattle.rules_origins.proofs.Keeping.{missing_found, missing_none}
use Rattle.rules_origins.proofs.criterion_missing.Goals as goal
use Rattle.rules_origins.proofs.criterion_missing.Goals.{After-from-q, At-loop-place, In-loop-place, Start}

-- ---- the states: the call, the head of a turn

abbrev call : At-loop-place → Start
call c = (goal.at.At-loop-place c).Start

abbrev turn_of : After-from-q → In-loop-place
turn_of c = (goal.at.After-from-q c).In-loop-place

-- the place has an entry
inside : (c : After-from-q) → c.from-q.result < length (call (goal.at.In-loop-place (turn_of c)).At-loop-place).args.ownp.now
inside c =
    let t = turn_of c in
    let pre = (call (goal.at.In-loop-place t).At-loop-place).requires in
    omega (arith, c.from-q.ensures, pre.places_in_bounds, (passed _ _ pre.criterion_value).known_at t.loop-place.place-index t.loop-place-test.true)

pub bounds-ownp-q : goal.bounds-ownp-q
bounds-ownp-q c = omega (arith, inside (goal.at.bounds-ownp-q c).After-from-q)

pub returns-then-ownp-q-eq0 : goal.returns-then-ownp-q-eq0
returns-then-ownp-q-eq0 c = λ N S e o.
    let place = c in
    let t = turn_of (goal.at.returns-then-ownp-q-eq0 place).After-from-q in
    let at = t.loop-place in
    let pre = (call (goal.at.In-loop-place t).At-loop-place).requires in
    let w = passed _ _ pre.criterion_value in
    place.from-q.ensures
    ∙ missing_found N S _ w.rise (λ k l. omega (arith, w.known_at k l)) at.place-index t.loop-place-test.true
    (λ k l. is_kept _ _ o _ (omega (arith, pre.places_in_bounds, w.known_at k (omega (arith, t.loop-place-test.true)))) (at.invariant k l))
    (left_out _ _ o _ (omega (arith, pre.places_in_bounds, w.known_at at.place-index t.loop-place-test.true)) (rw (← place.from-q.ensures) c.if-ownp-q-eq0.true))

pub returns : goal.returns
returns c = λ N S e o.
    let pre = (call (goal.at.returns c).At-loop-place).requires in
    let w = passed _ _ pre.criterion_value in
    sym e
    ∙ missing_none N S _ w.rise (λ k l. omega (arith, w.known_at k l))
    (λ k l. is_kept _ _ o _ (omega (arith, pre.places_in_bounds, w.known_at k l)) (c.loop-place.invariant k (omega (arith, c.loop-place-test.false))))
