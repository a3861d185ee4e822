use Prim.Native.Nat.{◌≤◌}
use mathlib.Core.Path.{ap}
use native.Mathlib.Omega.{arith}
use lib.ListN.{length, length-take}
use Rattle.promise.specs.Shadow.{ShadowAnswer}
use Rattle.promise.proofs.Rooms.{shadow_fits}
use Rattle.clients.proofs.Listed.{shadow_ended}
use Rattle.clients.proofs.shadows.shadow_on_slice.Goals as goal
use Rattle.clients.proofs.shadows.shadow_on_slice.Goals.{After-count_of-end, After-shadow-s, Start}

-- ---- the states: the shadow written, its count read

abbrev shadowed : After-count_of-end → After-shadow-s
shadowed c = (goal.at.After-count_of-end c).After-shadow-s

abbrev call : After-shadow-s → Start
call c = (goal.at.After-shadow-s c).Start

-- what was written fits into the output list
fits : (c : After-count_of-end) → c.count_of-end.result ≤ length (call (shadowed c)).args.out.now
fits c =
    let a = (call (shadowed c)).args in
    omega (arith, c.count_of-end.ensures, ap (λ (s : ShadowAnswer). s.count) (shadowed c).shadow-s.ensures.answer, shadow_fits a.plan.now a.slice.now a.list.now (length a.marking.now) (length a.out.now))

pub slice_bounds-replay-end : goal.slice_bounds-replay-end
slice_bounds-replay-end c = omega (arith, fits c)

pub slice_bounds-replay-end-2 : goal.slice_bounds-replay-end-2
slice_bounds-replay-end-2 c = simp length-take (omega (arith, fits c))

pub returns : goal.returns
returns c =
    let again = c in
    let counted = again in
    let s = (shadowed (goal.at.returns counted).After-count_of-end).shadow-s.ensures in
    λ Q a z h. shadow_ended _ _ _ _ _ _ _ _ _ Q s.answer s.followed counted.count_of-end.ensures a z h again.replay.ensures.answer again.replay.ensures.marking
