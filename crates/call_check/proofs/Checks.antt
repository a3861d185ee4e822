-- The check's answer, by the way out that the call took.
use Prim.Native.Nat.{ℕ, zero, suc}
use mathlib.Core.Path.{◌≡◌, refl, sym, ap, ◌∙◌}
use mathlib.Core.Bool.{true}
use mathlib.Core.List.{List}
use borrow.Author.Tests.{not-false, eqb-true}
use Rattle.net.specs.Checker.{Verdict, verdict}
use Rattle.file_header.specs.Layout.{header_of}
use Rattle.file.specs.Layout.{net_from, slice_from, net_of, slice_of}
use Rattle.file_words.specs.Refusal.{or_else}
use Rattle.file.specs.Refusal.{file_refusal}
use Rattle.file.specs.Criterion.{criterion_refusal, criterion_of, criterion_bytes_refusal}
use Rattle.file.specs.Facts.{Opened}
use Rattle.file_header.specs.declared.Due.TheVariants as due
use Rattle.file_header.specs.declared.Header.{Header}
use Rattle.promise.specs.Calls.{Checked, told, refused_or, check_refusal, checked, checked_bytes}

refused : (n : ℕ) (v : Verdict) → (n ≡ 0 → ⊥) → record { refused = true; code = n; number = 0 } ≡ refused_or n v
refused zero v h = absurd (h refl)
refused (suc n) v h = refl

-- the plan, the slice or the criterion is turned back with n; or none is
module _ (a b k n : ℕ) (v : Verdict) where
  first-turned : (a ≡ n) × (n ≡ 0 → ⊥) → record { refused = true; code = n; number = 0 } ≡ refused_or (or_else a (or_else b k)) v
  first-turned t = rw t.0 (go n t.1)
    where
      go : (m : ℕ) → (m ≡ 0 → ⊥) → record { refused = true; code = m; number = 0 } ≡ refused_or (or_else m (or_else b k)) v
      go zero h = absurd (h refl)
      go (suc m) h = refl

  second_turned : a ≡ 0 → (b ≡ n) × (n ≡ 0 → ⊥) → record { refused = true; code = n; number = 0 } ≡ refused_or (or_else a (or_else b k)) v
  second_turned e t = rw (e, t.0) (go n t.1)
    where
      go : (m : ℕ) → (m ≡ 0 → ⊥) → record { refused = true; code = m; number = 0 } ≡ refused_or (or_else 0 (or_else m k)) v
      go zero h = absurd (h refl)
      go (suc m) h = refl

  third_turned : a ≡ 0 → b ≡ 0 → n ≡ k → (n ≡ 0 → ⊥) → record { refused = true; code = n; number = 0 } ≡ refused_or (or_else a (or_else b k)) v
  third_turned e f t h = rw (e, f, ← t) (refused n v h)

  none_turned : a ≡ 0 → b ≡ 0 → k ≡ 0 → told v ≡ refused_or (or_else a (or_else b k)) v
  none_turned e f t = rw (e, f, t)

module _ (plan slice Q : List ℕ) where
  pub plan_turned : (n : ℕ) → (file_refusal due.Plan plan ≡ n) × (n ≡ 0 → ⊥) → record { refused = true; code = n; number = 0 } ≡ checked plan slice Q
  unfolding checked check_refusal
  plan_turned n t = first-turned (file_refusal due.Plan plan) (file_refusal due.Slice slice) (criterion_refusal (net_of plan).places Q) n (verdict (net_of plan) (slice_of slice) Q) t

  pub plan_turned_bytes : (n : ℕ) → (file_refusal due.Plan plan ≡ n) × (n ≡ 0 → ⊥) → n ≡ checked_bytes plan slice Q
  unfolding checked_bytes
  plan_turned_bytes n t =
      ap (λ (x : Checked). x.code)
      (first-turned (file_refusal due.Plan plan) (file_refusal due.Slice slice) (criterion_bytes_refusal (net_of plan).places Q) n (verdict (net_of plan) (slice_of slice) (criterion_of Q)) t)

  module _ (p : Header) (o : Opened due.Plan plan p) where
    pub slice_turned : (n : ℕ) → (file_refusal due.Slice slice ≡ n) × (n ≡ 0 → ⊥) → record { refused = true; code = n; number = 0 } ≡ checked plan slice Q
    unfolding checked check_refusal
    slice_turned n t = second_turned _ _ _ n _ o.read t

    pub slice_turned_bytes : (n : ℕ) → (file_refusal due.Slice slice ≡ n) × (n ≡ 0 → ⊥) → n ≡ checked_bytes plan slice Q
    unfolding checked_bytes
    slice_turned_bytes n t = ap (λ (x : Checked). x.code) (second_turned _ _ _ n _ o.read t)

    module _ (s : Header) (q : Opened due.Slice slice s) where
      pub slice_kind : s.kind ≡ 1
      slice_kind = eqb-true s.kind 1 (not-false _ q.kind)

      pub criterion_turned : (n : ℕ) → n ≡ criterion_refusal p.places Q → (n ≡ 0 → ⊥) → record { refused = true; code = n; number = 0 } ≡ checked plan slice Q
      unfolding checked check_refusal
      criterion_turned n t h = third_turned _ _ _ n _ o.read q.read (t ∙ ap (λ (g : Header). criterion_refusal g.places Q) o.same) h

      pub criterion_turned_bytes : (n : ℕ) → n ≡ criterion_bytes_refusal p.places Q → (n ≡ 0 → ⊥) → n ≡ checked_bytes plan slice Q
      unfolding checked_bytes
      criterion_turned_bytes n t h =
          ap (λ (x : Checked). x.code)
          (third_turned _ _ _ n _ o.read q.read (t ∙ ap (λ (g : Header). criterion_bytes_refusal g.places Q) o.same) h)

      whole : (R : List ℕ) → told (verdict (net_from plan p) (slice_from slice s) R) ≡ told (verdict (net_from plan (header_of plan)) (slice_from slice (header_of slice)) R)
      whole R =
          ap (λ (g : Header). told (verdict (net_from plan g) (slice_from slice s) R)) o.same
          ∙ ap (λ (g : Header). told (verdict (net_from plan (header_of plan)) (slice_from slice g) R)) q.same

      pub judged : criterion_refusal p.places Q ≡ 0 → told (verdict (net_from plan p) (slice_from slice s) Q) ≡ checked plan slice Q
      unfolding checked check_refusal
      judged e = whole Q ∙ none_turned _ _ _ 0 _ o.read q.read (ap (λ (g : Header). criterion_refusal g.places Q) (sym o.same) ∙ e)

      pub judged_bytes : criterion_bytes_refusal p.places Q ≡ 0 → (told (verdict (net_from plan p) (slice_from slice s) (criterion_of Q))).code ≡ checked_bytes plan slice Q
      unfolding checked_bytes
      judged_bytes e =
          ap (λ (x : Checked). x.code)
          (whole (criterion_of Q) ∙ none_turned _ _ _ 0 _ o.read q.read (ap (λ (g : Header). criterion_bytes_refusal g.places Q) (sym o.same) ∙ e))
