-- A cut and the check of what it wrote: from what the two calls ensure.
use Prim.Native.Nat.{ℕ, zero, suc, ◌%◌, ◌<◌}
use mathlib.Core.Bool.{true, false}
use mathlib.Core.List.{List}
use mathlib.Core.Path.{◌≡◌, refl, sym, ap, subst, subst⁻¹, ◌∙◌}
use mathlib.Core.Logic.{◌↔◌}
use native.Mathlib.Omega.{arith}
use lib.ListN.{length, take}
use lib.Dec.{eqb}
use borrow.Author.Tests.{eqb-true, eq-eqb}
use Rattle.net.specs.Cut.{safety}
use Rattle.net.specs.Slice.{Slice}
use Rattle.file_words.specs.Word.{Bytes}
use Rattle.file.specs.Layout.{slice_of}
use Rattle.file.specs.Criterion.{criterion_of}
use Rattle.promise.specs.Calls.{CutAnswer, cut_answer, cut_of, write_refusal, safety_file, safety_answer, safety_buffer, branching_answer, branching_buffer, Checked, checked, checked_bytes, Accepts}
use Rattle.promise.specs.Promise.{our_cut, WritesSmallest}
use Rattle.promise.specs.Uses.{NoneSmaller}
use Rattle.promise.proofs.Replays.{differ}
use Rattle.promise.proofs.Theorem.{promise}
use Rattle.promise.proofs.Uses.{uses}

-- the check of the bytes up to a length is the check of the bytes up to the same length
module _ (plan Q exit : List ℕ) {end n code : ℕ} {v : Checked} (same : end ≡ n) (told : v ≡ checked plan (take end exit) Q) (read : code ≡ v.code) where
  answers_0 : Accepts plan (take n exit) Q → code ≡ 0
  answers_0 a = read ∙ ap (λ (x : Checked). x.code) told ∙ ap (λ (k : ℕ). (checked plan (take k exit) Q).code) same ∙ a

pub safety-accepted : (plan Q exit : List ℕ) (room : ℕ) {a : CutAnswer} {refusal end code : ℕ} {v : Checked} → a ≡ safety_answer plan Q room → WritesSmallest (λ S. Accepts plan S Q) a exit
    → refusal ≡ a.refusal → refusal ≡ 0 → end ≡ a.length → v ≡ checked plan (take end exit) Q → code ≡ v.code → code ≡ (safety_answer plan Q room).refusal
safety-accepted plan Q exit room {a} e w r z same told read =
    let none : a.refusal ≡ 0 = sym r ∙ z in
    answers_0 plan Q exit same told read ((uses promise).counted plan Q a exit w none).own ∙ sym none ∙ ap (λ (x : CutAnswer). x.refusal) e

pub branching-accepted : (plan Q entry exit : List ℕ) {a : CutAnswer} {refusal end code : ℕ} {v : Checked} → Bytes plan → a ≡ branching_answer plan Q (length entry) → exit ≡ branching_buffer plan Q entry
    → refusal ≡ a.refusal → refusal ≡ 0 → end ≡ a.length → v ≡ checked plan (take end exit) Q → code ≡ v.code → code ≡ (branching_answer plan Q (length entry)).refusal
branching-accepted plan Q entry exit {a} b e f r z same told read =
    let none : (branching_answer plan Q (length entry)).refusal ≡ 0 = ap (λ (x : CutAnswer). x.refusal) (sym e) ∙ sym r ∙ z in
    let ours = ((promise.writes_exact plan Q entry b).exact none).accepted in
    answers_0 plan Q exit (same ∙ ap (λ (x : CutAnswer). x.length) e) told read (subst⁻¹ (λ (l : List ℕ). Accepts plan (take (branching_answer plan Q (length entry)).length l) Q) f ours) ∙ sym none

-- a cut that is refused counts nothing
counts_some : (n len : ℕ) (S : Slice) → (0 < (cut_answer n len S).places → (cut_answer n len S).refusal ≡ 0) × (0 < (cut_answer n len S).transitions → (cut_answer n len S).refusal ≡ 0)
counts_some zero len S = (λ h. refl, λ h. refl)
counts_some (suc k) len S = (λ h. absurd (omega arith), λ h. absurd (omega arith))

module _ (plan Q : List ℕ) (room : ℕ) where
  pub some_places : 0 < (safety_answer plan Q room).places → (safety_answer plan Q room).refusal ≡ 0
  unfolding safety_answer
  some_places = (counts_some (write_refusal plan Q room (safety_file plan Q)) (length (safety_file plan Q)) (cut_of safety plan Q)).0

  pub some_transitions : 0 < (safety_answer plan Q room).transitions → (safety_answer plan Q room).refusal ≡ 0
  unfolding safety_answer
  some_transitions = (counts_some (write_refusal plan Q room (safety_file plan Q)) (length (safety_file plan Q)) (cut_of safety plan Q)).1

-- a slice with fewer is not accepted
module _ (plan Q exit slice : List ℕ) (room : ℕ) {a : CutAnswer} (e : a ≡ safety_answer plan Q room) (w : WritesSmallest (λ S. Accepts plan S Q) a exit) where
  pub fewer-places : (slice_of slice).net.places < a.places → ¬ Accepts plan slice Q
  fewer-places l ok =
      let none : a.refusal ≡ 0 = ap (λ (x : CutAnswer). x.refusal) e ∙ some_places plan Q room (omega (arith, l, ap (λ (x : CutAnswer). x.places) e)) in
      omega (arith, ((uses promise).counted plan Q a exit w none).places slice ok, l)

  pub fewer-transitions : (slice_of slice).net.transitions < a.transitions → ¬ Accepts plan slice Q
  fewer-transitions l ok =
      let none : a.refusal ≡ 0 = ap (λ (x : CutAnswer). x.refusal) e ∙ some_transitions plan Q room (omega (arith, l, ap (λ (x : CutAnswer). x.transitions) e)) in
      omega (arith, ((uses promise).counted plan Q a exit w none).transitions slice ok, l)

-- an answer no, and an answer by the check's number
pub says_no : {A : Type 0} → ¬ A → (false ≡ true) ↔ A
says_no n = (λ e. differ e, λ a. absurd (n a))

pub says_0 : {A : Type 0} {code n : ℕ} → code ≡ n → ((n ≡ 0) ↔ A) → (eqb code 0 ≡ true) ↔ A
says_0 {A} {code} {n} e f = (λ h. f.0 (sym e ∙ eqb-true code 0 h), λ a. eq-eqb code 0 (e ∙ f.1 a))

-- ---- from C's two calls

module _ (plan q buffer Q : List ℕ) (b : Bytes plan) (even : length q % 2 ≡ 0) (same : Q ≡ criterion_of q) (z : (safety_answer plan Q (length buffer)).refusal ≡ 0) where
  abbrev a : CutAnswer
  a = safety_answer plan Q (length buffer)

  none_smaller : NoneSmaller (λ S. checked_bytes plan S q ≡ 0) a (our_cut plan Q buffer)
  none_smaller =
      subst⁻¹ (λ (X : List ℕ). NoneSmaller (λ S. checked_bytes plan S q ≡ 0) (safety_answer plan X (length buffer)) (our_cut plan X buffer)) same
      ((uses promise).two_calls plan q buffer b even (subst (λ (X : List ℕ). (safety_answer plan X (length buffer)).refusal ≡ 0) same z))

  pub own-checked : (exit : List ℕ) {end code : ℕ} → exit ≡ safety_buffer plan Q buffer → end ≡ a.length → code ≡ checked_bytes plan (take end exit) q → code ≡ a.refusal
  unfolding our_cut
  own-checked exit f n told =
      told ∙ ap (λ (k : ℕ). checked_bytes plan (take k exit) q) n ∙ ap (λ (l : List ℕ). checked_bytes plan (take a.length l) q) f ∙ none_smaller.own ∙ sym z

  pub fewer-places_bytes : (slice : List ℕ) → (slice_of slice).net.places < a.places → ¬ (checked_bytes plan slice q ≡ 0)
  fewer-places_bytes slice l ok = omega (arith, none_smaller.places slice ok, l)

  pub fewer-transitions_bytes : (slice : List ℕ) → (slice_of slice).net.transitions < a.transitions → ¬ (checked_bytes plan slice q ≡ 0)
  fewer-transitions_bytes slice l ok = omega (arith, none_smaller.transitions slice ok, l)
