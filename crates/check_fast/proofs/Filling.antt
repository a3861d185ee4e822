-- The tables once they are filled.
use Prim.Native.Nat.{ℕ, ◌+◌, ◌-◌, ◌*◌, ◌<◌}
use mathlib.Core.Path.{◌≡◌, refl, sym, ap, ◌∙◌}
use mathlib.Core.Bool.{Bool, true, false, ◌&&◌}
use mathlib.Core.Logic.{◌⊎◌, inl, inr}
use mathlib.Core.List.{List}
use native.Mathlib.Omega.{arith}
use lib.Dec.{eqb}
use lib.ListN.{length, get_or}
use borrow.Author.Tests.{eq-eqb, ne_eqb, ltb-true, ltb-false}
use Rattle.net.specs.Numbers.{among, position}
use Rattle.net.specs.Net.{capped}
use Rattle.net.proofs.Numbers.{by_cases, holds, at_position, position-lt}
use Rattle.file.specs.Layout.{net_from, slice_from}
use Rattle.file.specs.Facts.{Sound}
use Rattle.file.specs.Criterion.{criterion_refusal}
use Rattle.file_header.specs.declared.Header.{Header}
use Rattle.file.proofs.Criterion.{passed}
use Rattle.check_fast.specs.Entries.{left_place, left_capped, numbered, flagged, marked, either, bound, Numbered, Marked, Bound, Reached}
use Rattle.check_fast.specs.Pass.{watched, Ready, Blank}
use Rattle.check_fast.proofs.Ends.{numbered-in, numbered-out, marked-in, marked-out, flagged-whole, apart}
use Rattle.check_fast.proofs.Growing.{flagged-again}
use Rattle.check_fast.proofs.Watching.{watched-is, watched-asked, watched-capped, watched-kept}

-- ---- the entry of a capped place

-- no entry of a kept place is that of one left out
not_left : (m v : ℕ) → (v ≡ 4294967296 * m) ⊎ (v ≡ 4294967296 * m + 131072) → eqb v left_place ≡ false
not_left m v (inl e) = ne_eqb v left_place (λ z. omega arith)
not_left m v (inr e) = ne_eqb v left_place (λ z. omega arith)

module _ (plan : List ℕ) (hp : Header) (slice : List ℕ) (hs : Header) (Q : List ℕ) (kept : (q : ℕ) → among q Q ≡ true → among q (slice_from slice hs).place_origins ≡ true) (x : ℕ) (l : x < hp.places) where
  abbrev pub own : ℕ → ℕ
  own rest = numbered 4294967296 (slice_from slice hs).place_origins rest x

  -- its cap
  some_cap : capped (net_from plan hp) x ≡ true → eqb ((net_from plan hp).cap x) 0 ≡ false
  unfolding capped
  some_cap c = ne_eqb ((net_from plan hp).cap x) 0 (λ z. omega (arith, ltb-true 0 ((net_from plan hp).cap x) c))

  no_cap : capped (net_from plan hp) x ≡ false → eqb ((net_from plan hp).cap x) 0 ≡ true
  unfolding capped
  no_cap c = eq-eqb ((net_from plan hp).cap x) 0 (omega (arith, ltb-false 0 ((net_from plan hp).cap x) c))

  -- a place without a cap keeps its entry
  plain : capped (net_from plan hp) x ≡ false → marked Q (own left_place) x ≡ marked (watched plan hp slice hs Q) (own left_place) x
  plain c =
      by_cases (among x Q)
      (λ q. marked-in Q _ x q ∙ sym (marked-in (watched plan hp slice hs Q) _ x (watched-asked plan hp slice hs Q x l q)))
      (λ q. marked-out Q _ x q ∙ sym (marked-out (watched plan hp slice hs Q) _ x (watched-is plan hp slice hs Q x l ∙ rw (q, c) (none (among x (slice_from slice hs).place_origins)))))
    where
      none : (b : Bool) → (b && false) ≡ false
      none true = refl
      none false = refl

  -- one that is kept and capped gets the mark
  watched-entry : (m v : ℕ) → own left_place ≡ 4294967296 * m → v ≡ marked Q (own left_place) x → (eqb v left_place ≡ false) × (flagged v ≡ flagged (own left_place))
  watched-entry m v e f =
      by_cases (among x Q)
      (λ q. let g : v ≡ flagged (own left_place) = f ∙ marked-in Q _ x q in (not_left m v (inr (g ∙ ap flagged e ∙ flagged-whole m)), ap flagged g ∙ flagged-again (own left_place)))
      (λ q. let g : v ≡ own left_place = f ∙ marked-out Q _ x q in (not_left m v (inl (g ∙ e)), ap flagged g))

  pub bound-entry : bound ((net_from plan hp).cap x) (marked Q (own left_place) x) ≡ marked (watched plan hp slice hs Q) (own (either (capped (net_from plan hp) x) left_capped left_place)) x
  bound-entry =
      by_cases (capped (net_from plan hp) x)
      (λ c. rw (some_cap c, c) (by_cases (among x (slice_from slice hs).place_origins) (inside c) (outside c)))
      (λ c. rw (no_cap c, c) (plain c))
    where
      inside : capped (net_from plan hp) x ≡ true → among x (slice_from slice hs).place_origins ≡ true
          → either (eqb (marked Q (own left_place) x) left_place) left_capped (flagged (marked Q (own left_place) x)) ≡ marked (watched plan hp slice hs Q) (own left_capped) x
      inside c k =
          let m = 1024 + position x (slice_from slice hs).place_origins - x in
          let w = watched-entry m (marked Q (own left_place) x) (numbered-in 4294967296 _ left_place x k) refl in
          ap (λ (b : Bool). either b left_capped (flagged (marked Q (own left_place) x))) w.0
          ∙ w.1
          ∙ ap flagged (numbered-in 4294967296 _ left_place x k ∙ sym (numbered-in 4294967296 _ left_capped x k))
          ∙ sym (marked-in (watched plan hp slice hs Q) _ x (watched-capped plan hp slice hs Q x (holds _ k) (holds _ c)))

      outside : capped (net_from plan hp) x ≡ true → among x (slice_from slice hs).place_origins ≡ false
          → either (eqb (marked Q (own left_place) x) left_place) left_capped (flagged (marked Q (own left_place) x)) ≡ marked (watched plan hp slice hs Q) (own left_capped) x
      outside c k =
          let q : among x Q ≡ false = by_cases (among x Q) (λ e. apart (kept x e) k) (λ e. e) in
          let u : among x (watched plan hp slice hs Q) ≡ false = by_cases (among x (watched plan hp slice hs Q)) (λ e. apart (watched-kept plan hp slice hs Q kept x e) k) (λ e. e) in
          let v : marked Q (own left_place) x ≡ left_place = marked-out Q _ x q ∙ numbered-out 4294967296 _ left_place x k in
          ap (λ (b : Bool). either b left_capped (flagged (marked Q (own left_place) x))) (eq-eqb _ _ v)
          ∙ sym (marked-out (watched plan hp slice hs Q) _ x u ∙ numbered-out 4294967296 _ left_capped x k)

module _ (plan : List ℕ) (hp : Header) (slice : List ℕ) (hs : Header) (Q : List ℕ) (planned : Sound plan hp) (sliced : Sound slice hs) (kind : hs.kind ≡ 1) (asked : criterion_refusal hp.places Q ≡ 0) (places transitions : List ℕ) (b : Blank hp (slice_from slice hs) places transitions) (places₁ : List ℕ) (n : Numbered 4294967296 (slice_from slice hs).place_origins places places₁) where
  -- every place of the criterion has an entry
  pub criterion_reached : Reached Q (length places₁)
  criterion_reached = record { few = omega (arith, n.long, b.origins.few); at = λ i l. omega (arith, n.long, b.places_reached, (passed hp.places Q asked).known_at i l) }

  entry₁ : (x : ℕ) → x < hp.places → get_or places₁ x 0 ≡ numbered 4294967296 (slice_from slice hs).place_origins left_place x
  entry₁ x l = n.at x (omega (arith, b.places_reached)) ∙ ap (λ (v : ℕ). numbered 4294967296 (slice_from slice hs).place_origins v x) (b.place_entry x (omega (arith, b.places_reached)))

  -- an entry of the criterion that tells no place as left out
  pub all_there : ((i : ℕ) → i < length Q → get_or places₁ (get_or Q i 0) 0 ≡ left_place → ⊥) → (q : ℕ) → among q Q ≡ true → among q (slice_from slice hs).place_origins ≡ true
  all_there h q e =
      by_cases (among q (slice_from slice hs).place_origins)
      (λ k. k)
      (λ k. absurd (h (position q Q) (position-lt q Q (holds _ e))
      (ap (λ (x : ℕ). get_or places₁ x 0) (at_position q Q (holds _ e)) ∙ entry₁ q ((passed hp.places Q asked).known q (holds _ e)) ∙ numbered-out 4294967296 _ left_place q k)))

  pub ready : ((i : ℕ) → i < length Q → get_or places₁ (get_or Q i 0) 0 ≡ left_place → ⊥) → (places₂ : List ℕ) → Marked Q places₁ places₂ → (places₃ : List ℕ) → Bound (net_from plan hp) places₂ places₃
      → (transitions₁ : List ℕ) → Numbered 1 (slice_from slice hs).transition_origins transitions transitions₁ → Ready plan hp slice hs Q places₃ transitions₁
  ready h places₂ m places₃ c transitions₁ t = record {
    planned = planned;
    sliced = sliced;
    kind = kind;
    places_reached = omega (arith, b.places_reached, n.long, m.long, c.long);
    transitions_reached = omega (arith, b.transitions_reached, t.long);
    place_entry = λ x l.
        c.at x l
        ∙ ap (bound ((net_from plan hp).cap x)) (m.at x (omega (arith, b.places_reached, n.long)) ∙ ap (λ (v : ℕ). marked Q v x) (entry₁ x l))
        ∙ bound-entry plan hp slice hs Q (all_there h) x l;
    transition_entry = λ x l. t.at x (omega (arith, b.transitions_reached)) ∙ ap (λ (v : ℕ). numbered 1 (slice_from slice hs).transition_origins v x) (b.transition_entry x (omega (arith, b.transitions_reached)));
    watches = watched-kept plan hp slice hs Q (all_there h);
  }
