-- What is known of arcs that are not refused.
use Rattle.std.proofs.Common.{◌≡◌, ℕ, zero, suc, ◌+◌, ◌*◌, ◌<◌, ◌≤◌, false, not, eqb, ltb, List, map, ap, ◌∙◌, arith, ltb-false, eqb-true, leb-false}
use borrow.Author.Tests.{eqb-false, not-false}
use Rattle.net.specs.declared.Arc.{Arc}
use Rattle.file_words.specs.Word.{byte_at}
use Rattle.file_words.proofs.Laws.{refuse-0, or-false}
use Rattle.file_arcs.specs.Layout.{arc_at, arcs_from}
use Rattle.file_arcs.specs.Refusal.{key, arc_wrong, arcs_refusal}
use Rattle.file_arcs.specs.Facts.{ArcGood, InRange, OrderedFrom}

module _ (P T : ℕ) (s : List ℕ) where
  arc-good : (a : Arc) (spare : ℕ) → arc_wrong P T a spare ≡ false → ArcGood P T a
  arc-good a spare e =
      let q = or-false _ _ e in
      let b = or-false _ _ q.0 in
      let d = or-false _ _ b.0 in
      let f = or-false (not (eqb spare 0)) (ltb 1 a.direction) d.0 in
      let some : a.weight ≡ 0 → ⊥ = eqb-false _ _ q.1 in
      record {
        direction = ltb-false 1 a.direction f.1;
        place = leb-false P a.place d.1;
        transition = leb-false T a.transition b.1;
        weight = omega arith;
      }

  arc-zero : (a : Arc) (spare : ℕ) → arc_wrong P T a spare ≡ false → spare ≡ 0
  arc-zero a spare e =
      let b = or-false _ _ (or-false _ _ (or-false _ _ e).0).0 in
      eqb-true spare 0 (not-false _ (or-false (not (eqb spare 0)) (ltb 1 a.direction) b.0).0)

  -- an arc that was passed, its key, and the rest
  one : (at least n : ℕ) → arcs_refusal s P T at least (suc n) ≡ 0
      → ArcGood P T (arc_at s at) × (least ≤ key (arc_at s at)) × (arcs_refusal s P T (at + 8) (key (arc_at s at)) n ≡ 0)
  unfolding arcs_refusal
  one at least n e =
      let a = refuse-0 _ 5 _ e in
      let b = refuse-0 _ 6 _ a.1 in
      (arc-good (arc_at s at) (byte_at s (at + 3)) a.0, ltb-false _ _ b.0, b.1)

  pub arcs_in_range : (at least n : ℕ) → arcs_refusal s P T at least n ≡ 0 → InRange P T (arcs_from s at n)
  unfolding arcs_from
  arcs_in_range at least zero e = tt
  arcs_in_range at least (suc n) e = let a = one at least n e in (a.0, arcs_in_range (at + 8) _ n a.2)

  -- every arc's zero byte
  pub arcs_zero : (at least n : ℕ) → arcs_refusal s P T at least n ≡ 0 → (i : ℕ) → i < n → byte_at s (at + 8 * i + 3) ≡ 0
  unfolding arcs_refusal
  arcs_zero at least zero e i l = absurd (omega arith)
  arcs_zero at least (suc n) e zero l =
      let f : at + 8 * 0 + 3 ≡ at + 3 = omega arith in
      ap (byte_at s) f ∙ arc-zero (arc_at s at) (byte_at s (at + 3)) (refuse-0 _ 5 _ e).0
  arcs_zero at least (suc n) e (suc i) l =
      let f : at + 8 * suc i + 3 ≡ at + 8 + 8 * i + 3 = omega arith in
      ap (byte_at s) f ∙ arcs_zero (at + 8) _ n (one at least n e).2 i (omega arith)

  pub arcs_rise : (at least n : ℕ) → arcs_refusal s P T at least n ≡ 0 → OrderedFrom least (map key (arcs_from s at n))
  unfolding arcs_from
  arcs_rise at least zero e = tt
  arcs_rise at least (suc n) e = let a = one at least n e in (a.1, arcs_rise (at + 8) _ n a.2)
