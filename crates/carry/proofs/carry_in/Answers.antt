use Prim.Native.Nat.{ℕ}
use mathlib.Core.List.{◌++◌}
use mathlib.Core.Path.{sym, ◌∙◌}
use lib.ListN.{drop}
use Rattle.net.proofs.Markings.{length-tokens}
use Rattle.file.specs.Layout.{net_from}
use Rattle.promise.specs.Transfer.{carried_to}
use Rattle.carry.proofs.Sums.{sums_over, room_short, sums_pass, above_over, sums_same, sums_are}
use Rattle.carry.proofs.carry_in.Goals as goal

pub returns-then-not-add_up-clause-value : goal.returns-then-not-add_up-clause-value
returns-then-not-add_up-clause-value c =
    sums_over _ _ _ _ (above_over (net_from c.args.new.now c.args.h) c.args.running.now c.args.table.now 0 c.requires.sums_len c.add_up.ensures c.if-not-add_up.true)

pub returns-then-overfull-clause-value : goal.returns-then-overfull-clause-value
returns-then-overfull-clause-value c =
    let same = sums_same (net_from c.args.new.now c.args.h) c.args.running.now c.args.table.now 0 c.requires.sums_len c.add_up.ensures c.if-not-add_up.false in
    sums_over _ _ _ _ (sym same ∙ sym c.overfull.ensures ∙ c.if-overfull.true)

pub returns-then-marking-places-clause-value : goal.returns-then-marking-places-clause-value
returns-then-marking-places-clause-value c =
    let same = sums_same (net_from c.args.new.now c.args.h) c.args.running.now c.args.table.now 0 c.requires.sums_len c.add_up.ensures c.if-not-add_up.false in
    room_short _ _ _ _ (sym same ∙ sym c.overfull.ensures ∙ c.if-overfull.false) c.if-marking-places.true

pub returns-clause-value : goal.returns-clause-value
returns-clause-value c =
    let same = sums_same (net_from c.args.new.now c.args.h) c.args.running.now c.args.table.now 0 c.requires.sums_len c.add_up.ensures c.if-not-add_up.false in
    sums_pass _ _ _ _ (sym same ∙ sym c.overfull.ensures ∙ c.if-overfull.false) c.if-marking-places.false

pub returns-clause-marking_after : goal.returns-clause-marking_after
returns-clause-marking_after c =
    let N = net_from c.args.new.now c.args.h in
    let sums = c.copy_from_slice.ensures.after ∙ sums_are N c.args.running.now c.args.table.now 0 c.requires.sums_len c.add_up.ensures c.if-not-add_up.false in
    λ i. sums i ++ drop (sym (length-tokens N (λ (q : ℕ). carried_to q c.args.table.now c.args.running.now)) i) c.args.marking.now
