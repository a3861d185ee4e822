-- The answer of `transfer` and its marking, by the way out that the call took.
use Prim.Native.Nat.{ℕ}
use mathlib.Core.Path.{◌≡◌, refl, sym, subst⁻¹, ◌∙◌}
use mathlib.Core.List.{List}
use lib.ListN.{length}
use Rattle.net.specs.Net.{tokens}
use Rattle.file_words.proofs.Laws.{or_else_stop}
use Rattle.file.specs.Layout.{net_from}
use Rattle.file.specs.Refusal.{file_refusal}
use Rattle.file.specs.Facts.{Opened}
use Rattle.file_header.specs.declared.Due.TheVariants.{Plan}
use Rattle.file_header.specs.declared.Header.{Header}
use Rattle.promise.specs.Calls.{written}
use Rattle.promise.specs.Transfer.{carried_to, carry_refusal, transfer_answer, transfer_marking, Carried}
use Rattle.promise.proofs.Transfer.{carried}
use Rattle.inputs_lists.proofs.Passing.{kept-refused}

module _ (old new running table entry : List ℕ) where
  -- the three promises, from the first two
  all : {r : ℕ} {exit : List ℕ} → r ≡ transfer_answer old new running table (length entry) → exit ≡ transfer_marking old new running table entry
      → (r ≡ transfer_answer old new running table (length entry)) × ((exit ≡ transfer_marking old new running table entry) × (r ≡ 0 → Carried new running table exit))
  all {r} {exit} e f = (e, (f, λ z. subst⁻¹ (λ (x : List ℕ). Carried new running table x) f (carried old new running table entry (sym e ∙ z))))

  untouched : {n : ℕ} → transfer_answer old new running table (length entry) ≡ n → (n ≡ 0 → ⊥) → entry ≡ transfer_marking old new running table entry
  unfolding transfer_marking
  untouched {n} e z = rw e (kept-refused n _ entry refl z)

  pub old_turned : {n : ℕ} → (file_refusal Plan old ≡ n) × (n ≡ 0 → ⊥)
      → (n ≡ transfer_answer old new running table (length entry)) × ((entry ≡ transfer_marking old new running table entry) × (n ≡ 0 → Carried new running table entry))
  old_turned {n} t = let e = by_old in all (sym e) (untouched e t.1)
    where
      by_old : transfer_answer old new running table (length entry) ≡ n
      by_old = unfold transfer_answer in rw t.0 (or_else_stop n _ t.1)

  module _ (o : Header) (q : Opened Plan old o) where
    pub new_turned : {n : ℕ} → (file_refusal Plan new ≡ n) × (n ≡ 0 → ⊥)
        → (n ≡ transfer_answer old new running table (length entry)) × ((entry ≡ transfer_marking old new running table entry) × (n ≡ 0 → Carried new running table entry))
    new_turned {n} t = let e = by_new in all (sym e) (untouched e t.1)
      where
        by_new : transfer_answer old new running table (length entry) ≡ n
        by_new = unfold transfer_answer in rw (q.read, t.0) (or_else_stop n _ t.1)

    module _ (h : Header) (w : Opened Plan new h) {r : ℕ} {exit : List ℕ}
        (answer : r ≡ carry_refusal o.places (net_from new h) running table (length entry))
        (marking : exit ≡ written r (tokens (net_from new h) (λ p. carried_to p table running)) entry) where
      answered : r ≡ transfer_answer old new running table (length entry)
      unfolding transfer_answer
      answered = rw (q.read, w.read, ← q.same, ← w.same) answer

      left : exit ≡ transfer_marking old new running table entry
      unfolding transfer_marking
      left = rw (← answered, ← w.same) marking

      pub both_read : (r ≡ transfer_answer old new running table (length entry)) × ((exit ≡ transfer_marking old new running table entry) × (r ≡ 0 → Carried new running table exit))
      both_read = all answered left
