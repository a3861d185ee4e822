use native.Mathlib.Omega.{arith}
use Rattle.replay_firing.proofs.Caps.{Found, arc-inside, look, fits_all}
use Rattle.replay_firing.proofs.lowest_full.Goals as goal
use Rattle.replay_firing.proofs.lowest_full.Goals.{After-above-excess}

-- Every place of the output arcs passed is within its cap (`Looked`).

-- what was found at arc j
found : (c : After-above-excess) → Found c.args.file.now c.args.h c.args.t c.entry-from.result c.entry-to.result c.args.marking.now c.loop-j.j c.arc-a.result.place c.above-excess.result
found c = look c.loop-j.invariant c.loop-j-test.true c.arc-a.ensures.0 c.cap-cap.ensures.0 c.above-excess.ensures

pub cap-cap-requires-clause-place_lt_places : goal.cap-cap-requires-clause-place_lt_places
cap-cap-requires-clause-place_lt_places c = arc-inside c.loop-j.invariant c.loop-j-test.true c.arc-a.ensures.0

pub bounds-marking-p : goal.bounds-marking-p
bounds-marking-p c = omega (arith, arc-inside c.loop-j.invariant c.loop-j-test.true c.arc-a.ensures.0, c.loop-j.invariant.places)

-- ---- a place above its cap

pub overflow_cast-tokens : goal.overflow_cast-tokens
overflow_cast-tokens c = omega (arith, (found (goal.at.overflow_cast-tokens c).After-above-excess).small)

pub returns-then-excess-ne0 : goal.returns-then-excess-ne0
returns-then-excess-ne0 c = (found (goal.at.returns-then-excess-ne0 c).After-above-excess).full c.if-excess-ne0.true

-- ---- none is above its cap

pub returns : goal.returns
returns c = fits_all c.loop-j.invariant c.loop-j-test.false
