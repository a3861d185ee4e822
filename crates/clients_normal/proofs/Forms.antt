-- What the contract of `normal` says of one call, and of two.
use Prim.Native.Nat.{ℕ, zero, suc, ◌≤◌}
use mathlib.Core.Bool.{false}
use mathlib.Core.List.{List}
use mathlib.Core.Logic.{◌↔◌, ◌≢◌}
use mathlib.Core.Path.{◌≡◌, refl, sym, ap, subst⁻¹, ◌∙◌}
use native.Mathlib.Omega.{arith}
use lib.ListN.{length, take, length-take}
use Rattle.net.specs.Normal.{SameNet}
use Rattle.net.proofs.Normal.{same_back}
use Rattle.file.specs.Layout.{net_of}
use Rattle.file_words.specs.Refusal.{or_else}
use Rattle.file_words.specs.Word.{Bytes}
use Rattle.file_words.proofs.Laws.{or_else_stop}
use Rattle.promise.specs.Firing.{replay_answer, replay_marking}
use Rattle.promise.specs.Normal.{FileAnswer, file_answer, normal_write_refusal, normal_file, normal_answer, normal_buffer, WritesNormal}

-- ---- a call that wrote

passed_by : (n k : ℕ) → (file_answer n k).refusal ≡ 0 → (file_answer n k).refused ≡ false
passed_by zero k e = refl
passed_by (suc n) k e = absurd (omega (arith, e))

module _ (plan exit : List ℕ) (room : ℕ) {a : FileAnswer} (e : a ≡ normal_answer plan room) (w : WritesNormal plan a exit) (none : a.refusal ≡ 0) where
  pub passed : a.refused ≡ false
  unfolding normal_answer
  passed = ap (λ (x : FileAnswer). x.refused) e ∙ passed_by (normal_write_refusal plan room) (length (normal_file plan)) (ap (λ (x : FileAnswer). x.refusal) (sym e) ∙ none)

  pub fits : a.length ≤ length exit
  fits = omega (arith, w.long passed, length-take a.length exit)

  -- ---- a replay of what was written

  module _ {n : ℕ} (read : n ≡ a.length) where
    pub same_answer : (list : List ℕ) (room' : ℕ) → replay_answer (take n exit) list room' ≡ replay_answer plan list room'
    same_answer list room' = ap (λ (k : ℕ). replay_answer (take k exit) list room') read ∙ sym ((w.form passed).replayed list room')

    pub same_marking : (list marking : List ℕ) → replay_marking (take n exit) list marking ≡ replay_marking plan list marking
    same_marking list marking = ap (λ (k : ℕ). replay_marking (take k exit) list marking) read ∙ sym ((w.form passed).marked list marking)

  -- ---- a second call, on what was written

  module _ (entry : List ℕ) {n : ℕ} {b : FileAnswer} (read : n ≡ a.length) (long : n ≤ length entry)
      (e' : b ≡ normal_answer (take n exit) (length entry)) where
    pub again_same : b ≡ a
    again_same = e' ∙ ap (λ (k : ℕ). normal_answer (take k exit) (length entry)) read ∙ (w.again passed entry (omega (arith, read, long))).0

    pub again_none : b.refusal ≡ 0
    again_none = ap (λ (x : FileAnswer). x.refusal) again_same ∙ none

    pub again_long : b.length ≡ n
    again_long = ap (λ (x : FileAnswer). x.length) again_same ∙ sym read

    pub again_bytes : {exit' : List ℕ} → exit' ≡ normal_buffer (take n exit) entry → take n exit ≡ take n exit'
    again_bytes {exit'} f' =
        sym (ap (λ (k : ℕ). take k exit') read ∙ ap (take a.length) (f' ∙ ap (λ (k : ℕ). normal_buffer (take k exit) entry) read) ∙ (w.again passed entry (omega (arith, read, long))).1 ∙ ap (λ (k : ℕ). take k exit) (sym read))

-- ---- two plans

-- the first is refused
pub first-refused : (plan plan' : List ℕ) (room room' : ℕ) {a : FileAnswer} {n : ℕ} → a ≡ normal_answer plan room → n ≡ a.refusal → n ≢ 0
    → or_else (normal_answer plan room).refusal (normal_answer plan' room').refusal ≡ n
first-refused plan plan' room room' {a} {n} e r h = let z : (normal_answer plan room).refusal ≡ n = ap (λ (x : FileAnswer). x.refusal) (sym e) ∙ sym r in rw z (or_else_stop n _ h)

module _ (plan plan' exit exit' entry' : List ℕ) (room : ℕ) {a b : FileAnswer} (e : a ≡ normal_answer plan room) (w : WritesNormal plan a exit)
    (e' : b ≡ normal_answer plan' (length entry')) (f' : exit' ≡ normal_buffer plan' entry') (w' : WritesNormal plan' b exit') (bytes' : Bytes plan') where
  module _ (none : a.refusal ≡ 0) where
    pub second_refused : {n : ℕ} → n ≡ b.refusal → or_else (normal_answer plan room).refusal (normal_answer plan' (length entry')).refusal ≡ n
    second_refused r = let z : (normal_answer plan room).refusal ≡ 0 = ap (λ (x : FileAnswer). x.refusal) (sym e) ∙ none in rw z (ap (λ (x : FileAnswer). x.refusal) (sym e') ∙ sym r)

    module _ (none' : b.refusal ≡ 0) where
      one : (take b.length exit' ≡ take a.length exit) ↔ SameNet (net_of plan') (net_of plan)
      one =
          subst⁻¹ (λ (x : FileAnswer). (take x.length exit' ≡ take a.length exit) ↔ SameNet (net_of plan') (net_of plan)) e'
          (subst⁻¹ (λ (x : List ℕ). (take (normal_answer plan' (length entry')).length x ≡ take a.length exit) ↔ SameNet (net_of plan') (net_of plan)) f'
          (w.one (passed plan exit room e w none) plan' entry' bytes' (ap (λ (x : FileAnswer). x.refused) (sym e') ∙ passed plan' exit' (length entry') e' w' none')))

      -- other lengths
      pub other_lengths : {n m : ℕ} → n ≡ a.length → m ≡ b.length → n ≢ m → SameNet (net_of plan) (net_of plan') → ⊥
      other_lengths r s d same =
          d (r ∙ sym (w.long (passed plan exit room e w none)) ∙ sym (ap length (one.1 (same_back same))) ∙ w'.long (passed plan' exit' (length entry') e' w' none') ∙ sym s)

      module _ {n m : ℕ} (r : n ≡ a.length) (s : m ≡ b.length) (t : n ≡ m) where
        pub same_bytes : take n exit ≡ take n exit' → SameNet (net_of plan) (net_of plan')
        same_bytes x = same_back (one.0 (ap (λ (k : ℕ). take k exit') (sym s ∙ sym t) ∙ sym x ∙ ap (λ (k : ℕ). take k exit) r))

        pub other_bytes : (take n exit ≡ take n exit' → ⊥) → SameNet (net_of plan) (net_of plan') → ⊥
        other_bytes x same = x (ap (λ (k : ℕ). take k exit) r ∙ sym (one.1 (same_back same)) ∙ ap (λ (k : ℕ). take k exit') (sym s ∙ sym t))
