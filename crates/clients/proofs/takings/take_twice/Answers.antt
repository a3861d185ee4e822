use native.Mathlib.Omega.{arith}
use Prim.Native.Nat.{◌≤◌}
use lib.ListN.{length, length-take}
use borrow.Author.Tests.{not-true, not-false}
use Rattle.clients.proofs.Taken.{emptied, not-limited, limited_fits, again_0}
use Rattle.clients.proofs.takings.take_twice.Goals as goal
use Rattle.clients.proofs.takings.take_twice.Goals.{After-is_limited, After-together-first, Else-not-is_limited, Start}

-- ---- the states: the first answer, whether it is limited, the second

abbrev first_of : After-is_limited → After-together-first
first_of c = (goal.at.After-is_limited c).After-together-first

abbrev call : After-together-first → Start
call c = (goal.at.After-together-first c).Start

-- what is left has as many entries as the marking
fits : (c : Else-not-is_limited) → length (call (first_of (goal.at.Else-not-is_limited c).After-is_limited)).args.marking.now ≤ length (call (first_of (goal.at.Else-not-is_limited c).After-is_limited)).args.rest.now
fits c =
    let s = (first_of (goal.at.Else-not-is_limited c).After-is_limited).together-first.ensures in
    limited_fits _ _ _ _ _ s.answer s.largest c.is_limited.ensures (not-false _ c.if-not-is_limited.false-raw)

pub returns-then-not-is_limited : goal.returns-then-not-is_limited
returns-then-not-is_limited c =
    let s = (first_of (goal.at.returns-then-not-is_limited c).After-is_limited).together-first.ensures in
    record { left = emptied _ _ _ _ _ s.answer s.largest; none = λ r u h. not-limited _ _ _ _ _ s.answer s.largest c.is_limited.ensures (not-true _ c.if-not-is_limited.true-raw) r u }

pub slice_bounds-together-end : goal.slice_bounds-together-end
slice_bounds-together-end c = omega (arith, fits c)

pub slice_bounds-together-end-2 : goal.slice_bounds-together-end-2
slice_bounds-together-end-2 c = simp length-take (omega (arith, fits c))

pub returns : goal.returns
returns c =
    let second = c in
    let passed = second in
    let s = (first_of (goal.at.returns passed).After-is_limited).together-first.ensures in
    record { left = emptied _ _ _ _ _ s.answer s.largest; none = again_0 _ _ _ _ _ s.answer s.largest _ _ (omega (arith, fits (goal.at.returns passed).Else-not-is_limited)) second.together.ensures.answer second.together.ensures.largest }
