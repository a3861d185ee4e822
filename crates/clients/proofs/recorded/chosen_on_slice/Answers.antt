use Prim.Native.Nat.{◌≤◌}
use mathlib.Core.Path.{ap, ◌∙◌}
use native.Mathlib.Omega.{arith}
use lib.ListN.{length, length-take}
use Rattle.promise.specs.RunCut.{RunAnswer}
use Rattle.promise.proofs.Rooms.{run_fits}
use Rattle.clients.proofs.Running.{ended-above, told_back}
use Rattle.clients.proofs.recorded.chosen_on_slice.Goals as goal
use Rattle.clients.proofs.recorded.chosen_on_slice.Goals.{After-length_of-end, After-run_cut-c, Start}

-- ---- the states: the run cut answered, its length read

abbrev cut_of : After-length_of-end → After-run_cut-c
cut_of c = (goal.at.After-length_of-end c).After-run_cut-c

abbrev call : After-run_cut-c → Start
call c = (goal.at.After-run_cut-c c).Start

-- what was written fits into the buffer
fits : (c : After-length_of-end) → c.length_of-end.result ≤ length (call (cut_of c)).args.buffer.now
fits c =
    let a = (call (cut_of c)).args in
    omega (
      arith,
      c.length_of-end.ensures,
      ap (λ (r : RunAnswer). r.length) (cut_of c).run_cut-c.ensures.answer,
      (run_fits a.plan.now a.criterion.now a.list.now (length a.buffer.now) (length a.positions.now)).0,
    )

pub slice_bounds-replay-end : goal.slice_bounds-replay-end
slice_bounds-replay-end c = omega (arith, fits c)

pub slice_bounds-replay-end-2 : goal.slice_bounds-replay-end-2
slice_bounds-replay-end-2 c = simp length-take (omega (arith, fits c))

pub returns : goal.returns
returns c =
    let again = c in
    let sized = again in
    let s = (cut_of (goal.at.returns sized).After-length_of-end).run_cut-c.ensures in
    ended-above _ _ _ _ _ _ _ (told_back _ _ _ _ _ _ _ s.answer s.feeds) _ _ _ (sized.length_of-end.ensures ∙ ap (λ (r : RunAnswer). r.length) s.answer) again.replay.ensures.answer again.replay.ensures.marking
