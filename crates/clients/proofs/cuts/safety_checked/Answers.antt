use Prim.Native.Nat.{◌≤◌}
use mathlib.Core.Path.{refl, ap}
use native.Mathlib.Omega.{arith}
use lib.ListN.{length, length-take}
use Rattle.refusals.proofs.Numbers.{passed_on}
use Rattle.promise.specs.Calls.{CutAnswer}
use Rattle.promise.proofs.Rooms.{safety-fits}
use Rattle.clients.proofs.Cutting.{safety-accepted}
use Rattle.clients.proofs.cuts.safety_checked.Goals as goal

pub returns-in_err-c : goal.returns-in_err-c
returns-in_err-c c = rw (passed_on _ c.from_residual.ensures.1) (ap (λ (a : CutAnswer). a.refusal) c.in_err-c.ensures.answer)

-- what was written fits into the buffer
pub slice_bounds-check-end : goal.slice_bounds-check-end
slice_bounds-check-end c = omega (arith, ap (λ (a : CutAnswer). a.length) c.in_ok-c.ensures.answer, safety-fits c.args.plan.now c.args.criterion.now (length c.args.buffer.now))

pub slice_bounds-check-end-2 : goal.slice_bounds-check-end-2
slice_bounds-check-end-2 c =
    simp length-take (omega (arith, ap (λ (a : CutAnswer). a.length) c.in_ok-c.ensures.answer, safety-fits c.args.plan.now c.args.criterion.now (length c.args.buffer.now)))

pub returns : goal.returns
returns c =
    let s = c.in_ok-c.ensures in
    safety-accepted _ _ _ _ s.answer s.smallest refl refl refl c.check.ensures.answer refl
