use native.Mathlib.Omega.{arith}
use Rattle.check_fast.proofs.Walking.{joined-fits}
use Rattle.check_fast.proofs.Meeting.{can_be_due, level_met, parted, parted_end}
use Rattle.check_fast.proofs.first_other.Goals as goal

pub joined-requires : goal.joined-requires
joined-requires c =
    let f = joined-fits _ _ _ _ _ _ _ c.requires _ c.loop-j-test.true _ c.word-w.ensures (omega arith) in
    record { w_in_bounds = (f.0, f.1); transitions_bound = f.2 }

pub meet-next-requires-clause-z_bound : goal.meet-next-requires-clause-z_bound
meet-next-requires-clause-z_bound c = can_be_due _ _ _ _ _ _ _ c.requires _ c.loop-j-test.true _ c.word-w.ensures (omega arith) _ c.joined.ensures

pub returns-then-hs-next : goal.returns-then-hs-next
returns-then-hs-next c =
    let o = c.origin.ensures in
    parted _ _ _ _ _ _ _ c.requires _ c.loop-j-test.true _ c.word-w.ensures (omega arith) _ c.joined.ensures _ c.loop-j.invariant _ c.meet-next.ensures c.if-hs-next.true _ o.value o.value_2
    _ (λ h. omega (arith, c.min.ensures)) (λ h. omega (arith, c.min.ensures))

pub loop-j-preserved : goal.loop-j-preserved
loop-j-preserved c =
    level_met _ _ _ _ _ _ _ c.requires _ c.loop-j-test.true _ c.word-w.ensures (omega arith) _ c.joined.ensures _ c.loop-j.invariant _ c.meet-next.ensures c.if-hs-next.false

pub returns : goal.returns
returns c =
    let o = c.origin-2.ensures in
    parted_end _ _ _ _ _ _ _ c.requires _ _ c.loop-j.invariant c.loop-j-test.false _ o.value o.value_2
