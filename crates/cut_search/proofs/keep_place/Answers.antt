use native.Mathlib.Omega.{arith}
use Prim.Native.Nat.{◌<◌}
use mathlib.Core.Path.{◌≡◌}
use Rattle.file.specs.Layout.{net_from}
use Rattle.cut_search.proofs.Needed.{needed_input, needed_capped, not-needed, place_kept, place-left}
use Rattle.cut_search.proofs.keep_place.Goals as goal
use Rattle.cut_search.proofs.keep_place.Goals.{After-cap, Start}

-- ---- the states: the call, the cap of an output's place read

abbrev call : After-cap → Start
call c = (goal.at.After-cap c).Start

pub returns-then-a-eq0 : goal.returns-then-a-eq0
returns-then-a-eq0 c =
    let s = c in
    let input : s.args.a.direction ≡ 0 = c.if-a-eq0.true in
    place_kept _ _ _ _ (needed_input (net_from s.args.file.now s.args.h) s.args.a input) _ _ c.keep.ensures

pub returns-then-cap-eq0 : goal.returns-then-cap-eq0
returns-then-cap-eq0 c =
    let read = c in
    let s = call (goal.at.returns-then-cap-eq0 read).After-cap in
    let N = net_from s.args.file.now s.args.h in
    let none : N.cap s.args.a.place ≡ 0 = omega (arith, read.cap.ensures.0, c.if-cap-eq0.true) in
    place-left _ _ _ _ (not-needed N s.args.a read.if-a-eq0.false none) s.requires.2

pub returns : goal.returns
returns c =
    let read = c in
    let s = call (goal.at.returns read).After-cap in
    let N = net_from s.args.file.now s.args.h in
    let some : 0 < N.cap s.args.a.place = omega (arith, read.cap.ensures.0, c.if-cap-eq0.false) in
    place_kept _ _ _ _ (needed_capped N s.args.a some) _ _ c.keep-2.ensures
