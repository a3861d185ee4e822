-- The answer and the buffer of `normal`, by the way out that the call took.
use Prim.Native.Nat.{ℕ, ◌<◌}
use mathlib.Core.Path.{◌≡◌, refl, sym, ap, ◌∙◌}
use mathlib.Core.List.{List}
use lib.ListN.{length}
use Rattle.net.specs.Normal.{normal_of}
use Rattle.file_words.specs.Word.{byte_at, Bytes}
use Rattle.file_words.proofs.Laws.{or_else_stop}
use Rattle.file_header.specs.declared.Due.TheVariants as due
use Rattle.file_header.specs.declared.Header.{Header}
use Rattle.file.specs.Layout.{net_from}
use Rattle.file.specs.Refusal.{file_refusal}
use Rattle.file.specs.Facts.{Opened}
use Rattle.file_writing.specs.Writing.{plan_bytes}
use Rattle.promise.specs.Calls.{written}
use Rattle.promise.specs.Normal.{normal_refusal, normal_file, normal_write_refusal, FileAnswer, file_answer, normal_answer, normal_buffer, WritesNormal}
use Rattle.promise.proofs.Normal.{writes_normal}
use Rattle.plan_put.specs.Told.{file_numbers, Answers}
use Rattle.refusals.specs.Numbers.{number}
use Rattle.refusals.specs.declared.Refusal.{Refusal}
use Rattle.std.specs.Prelude.{Result, Err}
use Rattle.plan_put.proofs.Laws.{refused}
use Rattle.normal.specs.Counted.{lent_refusal}

-- answers by the name that the promise has for each part
named : (plan entry : List ℕ) (r : Result ℕ Refusal) {exit : List ℕ} (n : ℕ) (file : List ℕ) → n ≡ normal_write_refusal plan (length entry) → file ≡ normal_file plan → Answers n file entry exit r
    → (file_numbers r ≡ normal_answer plan (length entry)) × (exit ≡ normal_buffer plan entry)
unfolding normal_answer normal_buffer
named plan entry r n file e f a = (a.answer ∙ (λ i. file_answer (e i) (length (f i))), a.buffer ∙ (λ i. written (e i) (f i) entry))

-- by the file
pub by_file : (plan entry : List ℕ) (e : Refusal) → (file_refusal due.Plan plan ≡ number e) × (number e ≡ 0 → ⊥) → (file_numbers (Err e) ≡ normal_answer plan (length entry)) × (entry ≡ normal_buffer plan entry)
unfolding normal_write_refusal normal_refusal
by_file plan entry e t =
    let stops : number e ≡ normal_write_refusal plan (length entry) = sym (rw (t.0, or_else_stop (number e) _ t.1) (or_else_stop (number e) _ t.1)) in
    named plan entry (Err e) (number e) (normal_file plan) stops refl (refused (normal_file plan) entry e refl)

-- the file was read
pub by_writing : (plan entry : List ℕ) (h : Header) (r : Result ℕ Refusal) {exit : List ℕ} → Opened due.Plan plan h
    → file_numbers r ≡ file_answer (lent_refusal (net_from plan h) (length entry)) (length (plan_bytes 2 (normal_of (net_from plan h))))
    → exit ≡ written (lent_refusal (net_from plan h) (length entry)) (plan_bytes 2 (normal_of (net_from plan h))) entry
    → (file_numbers r ≡ normal_answer plan (length entry)) × (exit ≡ normal_buffer plan entry)
unfolding normal_write_refusal normal_refusal normal_file
by_writing plan entry h r o a b =
    let n : lent_refusal (net_from plan h) (length entry) ≡ normal_write_refusal plan (length entry) = rw (o.read, ← o.same) in
    let f : plan_bytes 2 (normal_of (net_from plan h)) ≡ normal_file plan = ap (λ (k : Header). plan_bytes 2 (normal_of (net_from plan k))) o.same in
    named plan entry r _ _ n f (record { answer = a; buffer = b })

-- the third promise, from the first two
pub all_three : (plan entry : List ℕ) {exit : List ℕ} {a : FileAnswer} → ((i : ℕ) → byte_at plan i < 256) → (a ≡ normal_answer plan (length entry)) × (exit ≡ normal_buffer plan entry)
    → (a ≡ normal_answer plan (length entry)) × ((exit ≡ normal_buffer plan entry) × WritesNormal plan a exit)
unfolding Bytes
all_three plan entry b (e, f) = (e, (f, writes_normal plan entry b e f))
