use Prim.Native.Nat.{◌*◌, ◌+◌}
use native.Mathlib.Omega.{arith}
use lib.ListN.{get_or}
use Rattle.replay_steps.proofs.Underway.{known, split_by}
use Rattle.replay_firing.proofs.Short.{Weighed, covered_none, weigh}
use Rattle.replay.proofs.Underway.{going_on, ended-rest, ended-fired, ended-short, firable, fired_plain}
use Rattle.replay.proofs.run.Goals as goal
use Rattle.replay.proofs.run.Goals.{After-add_up-need}

-- Outer loop: from the marking after k firings the rest of the list replays as the list does from the marking of the call (`Going`).
-- Inner loop: every place has enough for the input arcs passed (`Covered`).

-- the place of input arc j, and what the arcs up to it take from there
weighed : (c : After-add_up-need) → Weighed c.args.file.now c.args.h (get_or c.args.list.now c.loop-k.k 0) c.entry-from.result c.entry-middle.result c.loop-k.marking c.loop-j.j c.arc-a.result.place c.add_up-need.result
weighed c = weigh c.loop-j.invariant c.loop-j-test.true _ c.arc-a.ensures.0 c.arc-a.ensures.1.weight _ c.add_up-need.ensures

pub loop-j-init : goal.loop-j-init
loop-j-init c =
    let ready = c.requires.plain.ready in
    let t = get_or c.args.list.now c.loop-k.k 0 in
    let l = known c.loop-k.invariant.is c.loop-k-test.true in
    covered_none ready.sound (split_by ready (2 * t) (omega (arith, l)) c.entry-from.ensures.0) (split_by ready (2 * t + 1) (omega (arith, l)) c.entry-middle.ensures.0)

pub bounds-marking-p : goal.bounds-marking-p
bounds-marking-p c = omega (arith, (weighed (goal.at.bounds-marking-p c).After-add_up-need).place, c.loop-k.auto.marking, c.requires.plain.ready.places)

pub missing-amount-requires : goal.missing-amount-requires
missing-amount-requires c = (weighed (goal.at.missing-amount-requires c).After-add_up-need).lacks c.if-count-need.true

pub loop-j-preserved : goal.loop-j-preserved
loop-j-preserved c = (weighed (goal.at.loop-j-preserved c).After-add_up-need).covers c.if-count-need.false

pub fire-requires-clause-firable : goal.fire-requires-clause-firable
fire-requires-clause-firable c = firable c.loop-k.invariant.is c.loop-k-test.true c.loop-j.invariant c.loop-j-test.false

pub loop-k-preserved : goal.loop-k-preserved
loop-k-preserved c =
    let i = c.loop-k.invariant in
    going_on i (fired_plain i.is c.loop-k-test.true c.loop-j.invariant c.loop-j-test.false c.requires.plain c.fire.ensures)

pub returns-then-count-need : goal.returns-then-count-need
returns-then-count-need c =
    let i = c.loop-k.invariant in
    ended-rest i (ended-short i.is c.loop-k-test.true ((weighed (goal.at.returns-then-count-need c).After-add_up-need).short c.if-count-need.true) c.missing-amount.ensures)

pub returns-after-loop-k : goal.returns-after-loop-k
returns-after-loop-k c = let i = c.loop-k.invariant in ended-rest i (ended-fired i.is c.loop-k-test.false)
