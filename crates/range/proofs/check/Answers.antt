use mathlib.Core.Path.{◌≡◌, sym, ◌∙◌}
use mathlib.Core.Bool.{false}
use native.Mathlib.Omega.{arith}
use borrow.Author.Tests.{lt-ltb, le-ltb}
use Rattle.net.specs.Net.{has_caps}
use Rattle.file.specs.Layout.{net_from}
use Rattle.promise.specs.Firing.{list_refusal}
use Rattle.refusals.proofs.Numbers.{number_some, passed_on}
use Rattle.range.proofs.Passing.{by_list, by_length, by_entry, by_room}
use Rattle.range.proofs.check.Goals as goal
use Rattle.range.proofs.check.Goals.{Else-has_caps, In_ok-check, Else-not-from_marking, Else-upper-h}

-- ---- the tests that passed: no caps, a list that is not refused, an upper list of P entries, none of them below the marking

none_capped : (c : Else-has_caps) → has_caps (net_from c.args.file.now c.args.h) ≡ false
none_capped c = sym c.has_caps.ensures ∙ c.if-has_caps.false

listed : (c : In_ok-check) → list_refusal c.args.h.transitions c.args.list.now ≡ 0
listed c = sym c.in_ok-check.ensures

pub returns-in_err-check : goal.returns-in_err-check
returns-in_err-check c =
    rw (passed_on _ c.from_residual.ensures.1)
    (by_list c.args.file.now c.args.h c.args.list.now c.args.upper.now c.args.room (none_capped (goal.at.returns-in_err-check c).Else-has_caps) c.in_err-check.ensures (number_some _))

pub returns-then-upper-h : goal.returns-then-upper-h
returns-then-upper-h c =
    by_length c.args.file.now c.args.h c.args.list.now c.args.upper.now c.args.room (none_capped (goal.at.returns-then-upper-h c).Else-has_caps) (listed (goal.at.returns-then-upper-h c).In_ok-check)
    (λ e. omega (arith, e, c.if-upper-h.true))

pub returns-then-not-from_marking : goal.returns-then-not-from_marking
returns-then-not-from_marking c =
    by_entry c.args.file.now c.args.h c.args.list.now c.args.upper.now c.args.room (none_capped (goal.at.returns-then-not-from_marking c).Else-has_caps)
    (listed (goal.at.returns-then-not-from_marking c).In_ok-check) (omega (arith, c.if-upper-h.false)) (sym c.from_marking.ensures ∙ c.if-not-from_marking.true)

pub returns-then-room-h : goal.returns-then-room-h
returns-then-room-h c =
    by_room c.args.file.now c.args.h c.args.list.now c.args.upper.now c.args.room (none_capped (goal.at.returns-then-room-h c).Else-has_caps)
    (listed (goal.at.returns-then-room-h c).In_ok-check) (omega (arith, c.if-upper-h.false)) (sym c.from_marking.ensures ∙ c.if-not-from_marking.false) (lt-ltb _ _ c.if-room-h.true)

pub returns : goal.returns
returns c =
    by_room c.args.file.now c.args.h c.args.list.now c.args.upper.now c.args.room (none_capped (goal.at.returns c).Else-has_caps)
    (listed (goal.at.returns c).In_ok-check) (omega (arith, c.if-upper-h.false)) (sym c.from_marking.ensures ∙ c.if-not-from_marking.false) (le-ltb _ _ c.if-room-h.false)
