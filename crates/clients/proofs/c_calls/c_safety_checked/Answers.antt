use mathlib.Core.Path.{sym, ◌∙◌}
use Prim.Native.Nat.{◌≤◌}
use native.Mathlib.Omega.{arith}
use lib.ListN.{length, length-take}
use Rattle.promise.specs.Calls.{safety_answer}
use Rattle.promise.proofs.Rooms.{safety-fits}
use Rattle.file_words.specs.Word.{Bytes}
use Rattle.clients.proofs.Cutting.{own-checked}
use Rattle.clients.proofs.c_calls.c_safety_checked.Goals as goal
use Rattle.clients.proofs.c_calls.c_safety_checked.Goals.{After-nesfoal_safety-refusal, After-shared_slice_known-1, Else-refusal-ne0}

-- ---- the states: the cut answered, its refusal looked at

abbrev cut_of : Else-refusal-ne0 → After-nesfoal_safety-refusal
cut_of c = (goal.at.Else-refusal-ne0 c).After-nesfoal_safety-refusal

abbrev bytes_of : After-nesfoal_safety-refusal → After-shared_slice_known-1
bytes_of c = (goal.at.After-nesfoal_safety-refusal c).After-shared_slice_known-1

-- what was written fits into the buffer
fits : (c : Else-refusal-ne0) → (safety_answer (bytes_of (cut_of c)).args.plan.now (bytes_of (cut_of c)).args.criterion.now (length (bytes_of (cut_of c)).args.buffer.now)).length
    ≤ length (bytes_of (cut_of c)).args.buffer.now
fits c = safety-fits _ _ _

pub slice_bounds-nesfoal_check-end : goal.slice_bounds-nesfoal_check-end
slice_bounds-nesfoal_check-end c = omega (arith, fits (goal.at.slice_bounds-nesfoal_check-end c).Else-refusal-ne0, (cut_of (goal.at.slice_bounds-nesfoal_check-end c).Else-refusal-ne0).nesfoal_safety-refusal.ensures.long)

pub slice_bounds-nesfoal_check-end-2 : goal.slice_bounds-nesfoal_check-end-2
slice_bounds-nesfoal_check-end-2 c = simp length-take (omega (arith, fits (goal.at.slice_bounds-nesfoal_check-end-2 c).Else-refusal-ne0, (cut_of (goal.at.slice_bounds-nesfoal_check-end-2 c).Else-refusal-ne0).nesfoal_safety-refusal.ensures.long))

pub returns : goal.returns
unfolding Bytes
returns c =
    let passed = c in
    let cut = cut_of (goal.at.returns passed).Else-refusal-ne0 in
    let s = cut.nesfoal_safety-refusal.ensures in
    let a = (bytes_of cut).args in
    λ even same. own-checked a.plan.now a.q.now a.buffer.now a.criterion.now (λ i. omega (arith, (bytes_of cut).type_inv.plan i)) even same (sym s.answer ∙ passed.if-refusal-ne0.false) _ s.buffer s.long c.nesfoal_check.ensures.answer
