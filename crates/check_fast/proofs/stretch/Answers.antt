use Prim.Native.Nat.{ℕ, ◌+◌}
use mathlib.Core.Path.{sym, ap, ◌∙◌}
use lib.Bits.{bit_or}
use Rattle.check_fast.proofs.Walking.{walked_next, joined-fits}
use native.Mathlib.Omega.{arith}
use Rattle.check_fast.proofs.stretch.Goals as goal

pub joined-z-requires : goal.joined-z-requires
joined-z-requires c =
    let f = joined-fits _ _ _ _ _ _ _ c.requires.ready _ c.loop-j-test.true _ c.word-w.ensures (omega arith) in
    record { w_in_bounds = (f.0, f.1); transitions_bound = f.2 }

pub loop-j-preserved : goal.loop-j-preserved
loop-j-preserved c =
    walked_next _ _ _ _ _ _ _ c.requires.ready _ c.loop-j-test.true _ c.word-w.ensures (omega arith) _ _ _ c.loop-j.invariant _ c.joined-z.ensures
    (sym c.pauses.ensures ∙ c.if-pauses.false) _ c.word.ensures _ (ap (bit_or c.loop-j.differs) c.unlike-differs.ensures) _ (ap (λ (n : ℕ). c.loop-j.k + n) c.step-k.ensures)
