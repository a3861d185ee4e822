use borrow.Author.Tests.{not-false}
use Prim.Native.Nat.{ℕ, ◌<◌}
use mathlib.Core.Path.{◌≡◌}
use mathlib.Core.Bool.{true}
use Rattle.net.specs.Numbers.{among}
use Rattle.net.proofs.Numbers.{holds}
use Rattle.file.specs.Layout.{slice_from}
use Rattle.file.proofs.Criterion.{passed}
use Rattle.check_fast.proofs.Filling.{criterion_reached, all_there, ready}
use Rattle.check_fast.proofs.Holding.{nothing_known, passed_agreed}
use native.Mathlib.Omega.{arith}
use Rattle.rules_origins.proofs.Reached.{place-origins, origins_of_transitions}
use Rattle.check_fast.specs.Pass.{Ready}
use Rattle.check_fast.proofs.agrees.Goals as goal
use Rattle.check_fast.proofs.agrees.Goals.{After-all_kept, After-mark, After-mark_capped, After-number, After-number-2, Else-not-all_kept, Start}

-- ---- the states: places numbered, transitions numbered, the criterion kept, marked, the capped places marked

abbrev call : After-number → Start
call c = (goal.at.After-number c).Start

abbrev places_of : After-number-2 → After-number
places_of c = (goal.at.After-number-2 c).After-number

abbrev numbered : After-all_kept → After-number-2
numbered c = (goal.at.After-all_kept c).After-number-2

abbrev kept_of : After-mark → Else-not-all_kept
kept_of c = (goal.at.After-mark c).Else-not-all_kept

abbrev marked_of : After-mark_capped → After-mark
marked_of c = (goal.at.After-mark_capped c).After-mark

-- the tables are those of the two files
ready_at : (c : After-mark_capped) → let n = numbered (goal.at.Else-not-all_kept (kept_of (marked_of c))).After-all_kept in let s = call (places_of n) in
    Ready s.args.plan.now s.args.hp s.args.slice.now s.args.hs s.args.criterion.now c.mark_capped.new.places n.number-2.new.table
ready_at c =
    let marked = marked_of c in
    let kept = kept_of marked in
    let n = numbered (goal.at.Else-not-all_kept kept).After-all_kept in
    let p = places_of n in
    let pre = (call p).requires in
    ready _ _ _ _ _ pre.sound pre.sound_2 pre.kind_value pre.criterion_value _ _ pre.blank _ p.number.ensures
    (kept.all_kept.ensures (not-false _ kept.if-not-all_kept.false-raw)) _ marked.mark.ensures _ c.mark_capped.ensures _ n.number-2.ensures

-- the criterion is kept
criterion_at : (c : After-mark_capped) → let n = numbered (goal.at.Else-not-all_kept (kept_of (marked_of c))).After-all_kept in let a = (call (places_of n)).args in
    (q : ℕ) → among q a.criterion.now ≡ true → among q (slice_from a.slice.now a.hs).place_origins ≡ true
criterion_at c =
    let kept = kept_of (marked_of c) in
    let p = places_of (numbered (goal.at.Else-not-all_kept kept).After-all_kept) in
    let s = call p in
    let pre = s.requires in
    all_there s.args.plan.now _ _ _ _ pre.sound pre.sound_2 pre.kind_value pre.criterion_value _ _ pre.blank _ p.number.ensures (kept.all_kept.ensures (not-false _ kept.if-not-all_kept.false-raw))

pub number-requires : goal.number-requires
number-requires c =
    let pre = c.requires in
    record { origins = place-origins _ _ pre.sound_2 pre.kind_value; reached = pre.blank.origins; unit_bound = omega arith }

pub number-requires-2 : goal.number-requires-2
number-requires-2 c =
    let places = c in
    let pre = (call (goal.at.number-requires-2 places).After-number).requires in
    record { origins = origins_of_transitions _ _ pre.sound_2 pre.kind_value; reached = pre.blank.origins_of_transitions; unit_bound = omega arith }

pub all_kept-requires : goal.all_kept-requires
all_kept-requires c =
    let p = places_of (goal.at.all_kept-requires c).After-number-2 in
    let pre = (call p).requires in
    criterion_reached _ _ _ _ _ pre.sound pre.sound_2 pre.kind_value pre.criterion_value _ _ pre.blank _ p.number.ensures

pub returns-then-not-all_kept : goal.returns-then-not-all_kept
returns-then-not-all_kept c = record { agreed = nothing_known _ _ _ _ (omega arith); ready = λ l. absurd (omega arith) }

pub mark-requires : goal.mark-requires
mark-requires c =
    let p = places_of (numbered (goal.at.mark-requires c).After-all_kept) in
    let pre = (call p).requires in
    criterion_reached _ _ _ _ _ pre.sound pre.sound_2 pre.kind_value pre.criterion_value _ _ pre.blank _ p.number.ensures

pub mark_capped-requires : goal.mark_capped-requires
mark_capped-requires c =
    let marked = c in
    let p = places_of (numbered (goal.at.Else-not-all_kept (kept_of (goal.at.mark_capped-requires marked).After-mark)).After-all_kept) in
    let pre = (call p).requires in
    record { placed = pre.sound.placed; places_in_bounds = omega (arith, marked.mark.ensures.long, p.number.ensures.long, pre.blank.places_reached) }

pub pass-requires : goal.pass-requires
pass-requires c = ready_at (goal.at.pass-requires c).After-mark_capped

pub returns : goal.returns
returns c =
    let filled = c in
    let s = call (places_of (numbered (goal.at.Else-not-all_kept (kept_of (marked_of (goal.at.returns filled).After-mark_capped))).After-all_kept)) in
    let known : (q : ℕ) → among q s.args.criterion.now ≡ true → q < s.args.hp.places = λ q e. (passed s.args.hp.places s.args.criterion.now s.requires.criterion_value).known q (holds _ e) in
    record { agreed = passed_agreed _ _ _ _ _ _ c.pass.ensures known (criterion_at (goal.at.returns filled).After-mark_capped); ready = λ l. ready_at (goal.at.returns filled).After-mark_capped }
