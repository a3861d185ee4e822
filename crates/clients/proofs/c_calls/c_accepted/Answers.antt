use mathlib.Core.Path.{sym, ◌∙◌}
use native.Mathlib.Omega.{arith}
use Rattle.file_words.specs.Word.{Bytes}
use Rattle.clients.proofs.Cutting.{fewer-places_bytes, fewer-transitions_bytes, says_no, says_0}
use Rattle.clients.proofs.c_calls.c_accepted.Goals as goal
use Rattle.clients.proofs.c_calls.c_accepted.Goals.{After-nesfoal_safety-refusal, After-shared_slice_known-1, Else-refusal-ne0}

-- ---- the states: the cut answered, its refusal looked at

abbrev cut_of : Else-refusal-ne0 → After-nesfoal_safety-refusal
cut_of c = (goal.at.Else-refusal-ne0 c).After-nesfoal_safety-refusal

abbrev bytes_of : After-nesfoal_safety-refusal → After-shared_slice_known-1
bytes_of c = (goal.at.After-nesfoal_safety-refusal c).After-shared_slice_known-1

pub returns-then-refusal-ne0 : goal.returns-then-refusal-ne0
returns-then-refusal-ne0 c = λ even same p t. says_0 c.nesfoal_check.ensures.answer (λ a. a, λ a. a)

pub returns-then-places-cut_places : goal.returns-then-places-cut_places
unfolding Bytes
returns-then-places-cut_places c =
    let passed = c in
    let cut = cut_of (goal.at.returns-then-places-cut_places passed).Else-refusal-ne0 in
    let s = cut.nesfoal_safety-refusal.ensures in
    let a = (bytes_of cut).args in
    λ even same p t. says_no (fewer-places_bytes a.plan.now a.q.now a.buffer.now a.criterion.now (λ i. omega (arith, (bytes_of cut).type_inv.plan i)) even same (sym s.answer ∙ passed.if-refusal-ne0.false)
    a.slice.now (omega (arith, p, s.places, c.if-places-cut_places)))

pub returns-then-transitions-cut_transitions : goal.returns-then-transitions-cut_transitions
unfolding Bytes
returns-then-transitions-cut_transitions c =
    let passed = c in
    let cut = cut_of (goal.at.returns-then-transitions-cut_transitions passed).Else-refusal-ne0 in
    let s = cut.nesfoal_safety-refusal.ensures in
    let a = (bytes_of cut).args in
    λ even same p t. says_no (fewer-transitions_bytes a.plan.now a.q.now a.buffer.now a.criterion.now (λ i. omega (arith, (bytes_of cut).type_inv.plan i)) even same (sym s.answer ∙ passed.if-refusal-ne0.false)
    a.slice.now (omega (arith, t, s.transitions, c.if-transitions-cut_transitions)))

pub returns : goal.returns
returns c = λ even same p t. says_0 c.nesfoal_check-2.ensures.answer (λ a. a, λ a. a)
