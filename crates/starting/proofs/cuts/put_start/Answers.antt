use Prim.Native.Nat.{ℕ, ◌+◌, ◌-◌}
use mathlib.Core.List.{List, ◌++◌}
use mathlib.Core.Path.{◌≡◌, ap, ◌∙◌}
use native.Mathlib.Omega.{arith}
use lib.Dec.{eqb}
use lib.ListN.{get_or, length-append}
use Rattle.file.specs.Layout.{net_from}
use Rattle.file_writing.specs.Writing.{place_bytes}
use Rattle.promise.specs.Together.{standing}
use Rattle.sets.specs.Member.{member}
use Rattle.tables.proofs.Storing.{Storing, storing_as, storing_part, storing_none}
use Rattle.starting.specs.Cuts.{given, passed_bytes}
use Rattle.starting.proofs.Places.{left, left-next, left-past, left-none}
use Rattle.starting.proofs.cuts.put_start.Goals as goal
use Rattle.starting.proofs.cuts.put_start.Goals.{After-pass-q, After-put_kept-arg-1, At-loop-p, Start}

-- ---- the states: the call, the head of a turn, the place that it writes; what stands for that place in the file

abbrev call : At-loop-p → Start
call c = (goal.at.At-loop-p c).Start

abbrev place_of : After-put_kept-arg-1 → After-pass-q
place_of c = (goal.at.After-put_kept-arg-1 c).After-pass-q

abbrev at_of : After-pass-q → At-loop-p
at_of c = (goal.at.After-pass-q c).At-loop-p

abbrev part : After-pass-q → List ℕ
part c =
    let a = (call (at_of c)).args in
    let q = c.pass-q.result in
    given (member a.places.now q) (place_bytes (eqb a.h.edition 2) (get_or a.start.now q 0) ((net_from a.plan.now a.h).cap q))

abbrev left_at : After-pass-q → ℕ → List ℕ
left_at c p =
    let a = (call (at_of c)).args in
    left a.h.edition (standing a.start.now) (net_from a.plan.now a.h).cap (member a.places.now) a.h.places p

-- up to that place nothing is to be stored
passed : (c : After-pass-q) → left_at c (at_of c).loop-p.p ≡ left_at c c.pass-q.result
passed c =
    let a = (call (at_of c)).args in
    let p = (at_of c).loop-p.p in
    let q = c.pass-q.result in
    let x = c.pass-q.ensures in
    let z : p + (q - p) ≡ q = omega (arith, x.0) in
    left-past a.h.edition (standing a.start.now) (net_from a.plan.now a.h).cap (member a.places.now) a.h.places (q - p) p (omega (arith, z, x.1))
    (λ k u v. x.2.at k u (omega (arith, v, z)))
    ∙ ap (left_at c) z

-- this place, then the others
to_store : (c : After-pass-q) → let l = at_of c in let a = (call l).args in
    Storing a.buffer.now 0 (passed_bytes a.h.edition (standing a.start.now) (net_from a.plan.now a.h).cap (member a.places.now) 0 a.h.places) l.loop-p.buffer l.loop-p.at
    (part c ++ left_at c (c.pass-q.result + 1))
to_store c =
    let l = at_of c in
    let a = (call l).args in
    storing_as l.loop-p.invariant.1 (passed c ∙ left-next a.h.edition (standing a.start.now) (net_from a.plan.now a.h).cap (member a.places.now) a.h.places c.pass-q.result c.pass-q.ensures.1)

pub put_kept-at-requires-clause-p_in_bounds : goal.put_kept-at-requires-clause-p_in_bounds
put_kept-at-requires-clause-p_in_bounds c =
    let t = place_of c in
    let s = call (at_of t) in
    let w = to_store t in
    omega (arith, s.requires.places_in_bounds, w.count, w.long, length-append (part t) (left_at t (t.pass-q.result + 1)))

pub loop-p-preserved : goal.loop-p-preserved
loop-p-preserved c =
    let put = c in
    let t = place_of (goal.at.loop-p-preserved put).After-put_kept-arg-1 in
    (omega (arith, t.pass-q.ensures.1), storing_part (part t) _ _ _ (to_store t) put.put_kept-at.ensures.buffer_after put.put_kept-at.ensures.value)

pub returns : goal.returns
returns c =
    let l = c in
    storing_none (storing_as l.loop-p.invariant.1 (left-none _ _ _ _ _ l.loop-p.p c.loop-p-test.false))
