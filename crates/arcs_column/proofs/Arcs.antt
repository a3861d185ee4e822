-- Weights and the arcs that carry them: a weight above 0 has an arc, and an arc adds its weight.
use Prim.Native.Nat.{ℕ, zero, suc, ◌+◌, ◌*◌, ◌≤◌, ◌<◌}
use mathlib.Core.Bool.{Bool, true, false, ◌&&◌}
use mathlib.Core.List.{List}
use mathlib.Core.Path.{◌≡◌, refl, sym, ap, ◌∙◌}
use native.Mathlib.Omega.{arith}
use native.Mathlib.Decide.{ℕ_discrete, dec_lt}
use lib.Dec.{eqb}
use borrow.Author.Tests.{eq-eqb, eqb-true}
use Rattle.net.specs.Net.{counted, joins, weight_on}
use Rattle.file_arcs.specs.Layout.{arc_at, arcs_from}
use Rattle.file.specs.Facts.{Sound}
use Rattle.file_header.specs.declared.Header.{Header}
use Rattle.net.specs.declared.Arc.{Arc}
use Rattle.arcs_starts.specs.Table.{slot_of, slot_at, Split}
use Rattle.file_arcs.proofs.Rows.{weight_none, weight_next}
use Rattle.file.proofs.Rows.{good_at}
use Rattle.arcs_column.specs.Ways.{Joins}

pub record JoinsBelow (d p t : ℕ) (s : List ℕ) (start n : ℕ) : Type 0 where
  pub at : ℕ
  pub below : at < n
  pub joins_it : Joins d p t s start at

pub joined : (d p t : ℕ) (s : List ℕ) (start i : ℕ) (a : Arc) → a ≡ arc_at s (start + 8 * i) → joins d p t a ≡ true → Joins d p t s start i
joined d p t s start i a is e = go (eqb a.transition t) (eqb a.direction d) (eqb a.place p) refl refl refl e
  where
    go : (x y z : Bool) → eqb a.transition t ≡ x → eqb a.direction d ≡ y → eqb a.place p ≡ z → x && y && z ≡ true → Joins d p t s start i
    go true true true f g h q = record {
      transition = sym (ap (λ (a : Arc). a.transition) is) ∙ eqb-true a.transition t f;
      direction = sym (ap (λ (a : Arc). a.direction) is) ∙ eqb-true a.direction d g;
      place = sym (ap (λ (a : Arc). a.place) is) ∙ eqb-true a.place p h;
    }
    go true true false f g h q = absurd (let z : ◌≡◌ {A = ℕ} 0 1 = cc in omega arith)
    go true false z f g h q = absurd (let z : ◌≡◌ {A = ℕ} 0 1 = cc in omega arith)
    go false true z f g h q = absurd (let z : ◌≡◌ {A = ℕ} 0 1 = cc in omega arith)
    go false false z f g h q = absurd (let z : ◌≡◌ {A = ℕ} 0 1 = cc in omega arith)

-- a weight above 0 has an arc
pub has_arc : (d p t : ℕ) (s : List ℕ) (start n : ℕ) → 0 < weight_on d p t (arcs_from s start n) → JoinsBelow d p t s start n
has_arc d p t s start zero l = absurd (omega (arith, weight_none d p t s start))
has_arc d p t s start (suc n) l = go (joins d p t (arc_at s (start + 8 * n))) refl (λ h. has_arc d p t s start n h)
  where
    go : (b : Bool) → joins d p t (arc_at s (start + 8 * n)) ≡ b → (0 < weight_on d p t (arcs_from s start n) → JoinsBelow d p t s start n) → JoinsBelow d p t s start (suc n)
    go true e rest = record { at = n; below = omega arith; joins_it = joined d p t s start n (arc_at s (start + 8 * n)) refl e }
    go false e rest =
        let q : counted (joins d p t (arc_at s (start + 8 * n))) (arc_at s (start + 8 * n)).weight ≡ 0 = rw e in
        let r = rest (omega (arith, weight_next d p t s start n, q)) in
        record { at = r.at; below = let h = r.below in omega arith; joins_it = r.joins_it }

-- an arc adds its weight
pub arc-has : (d p t : ℕ) (s : List ℕ) (start n i : ℕ) → i < n → Joins d p t s start i → (arc_at s (start + 8 * i)).weight ≤ weight_on d p t (arcs_from s start n)
arc-has d p t s start zero i l x = absurd (omega arith)
arc-has d p t s start (suc n) i l x = go (ℕ_discrete i n) (λ h. arc-has d p t s start n i h x)
  where
    go : Dec (i ≡ n) → (i < n → (arc_at s (start + 8 * i)).weight ≤ weight_on d p t (arcs_from s start n)) → (arc_at s (start + 8 * i)).weight ≤ weight_on d p t (arcs_from s start (suc n))
    go (yes e) rest =
        let q : counted (joins d p t (arc_at s (start + 8 * i))) (arc_at s (start + 8 * i)).weight ≡ (arc_at s (start + 8 * i)).weight =
        rw (eq-eqb (arc_at s (start + 8 * i)).transition t x.transition, eq-eqb (arc_at s (start + 8 * i)).direction d x.direction, eq-eqb (arc_at s (start + 8 * i)).place p x.place) in
        omega (arith, weight_next d p t s start n, q, ap (λ (k : ℕ). counted (joins d p t (arc_at s (start + 8 * k))) (arc_at s (start + 8 * k)).weight) e)
    go (no e) rest = omega (arith, weight_next d p t s start n, rest (omega arith))

-- ---- in a file that was read

module _ (s : List ℕ) (h : Header) (sound : Sound s h) where
  -- no arc is at a number past the places
  pub none_past : (d p t : ℕ) → h.places ≤ p → weight_on d p t (arcs_from s h.arcstart h.arcs) ≡ 0
  none_past d p t l = go (ℕ_discrete (weight_on d p t (arcs_from s h.arcstart h.arcs)) 0)
    where
      go : Dec (weight_on d p t (arcs_from s h.arcstart h.arcs) ≡ 0) → weight_on d p t (arcs_from s h.arcstart h.arcs) ≡ 0
      go (yes e) = e
      go (no e) = let j = has_arc d p t s h.arcstart h.arcs (omega (arith, e)) in absurd (omega (arith, (good_at s h sound j.at j.below).place, j.joins_it.place))

  -- the arcs of t in direction d stand between two starts
  module _ (d t b e : ℕ) (dl : d ≤ 1) (low : Split s h.arcstart h.arcs (2 * t + d) b) (high : Split s h.arcstart h.arcs (2 * t + d + 1) e) where
    pub joins-in : (p i : ℕ) → i < h.arcs → Joins d p t s h.arcstart i → (b ≤ i) × (i < e)
    unfolding slot_at
    joins-in p i l x = (from (dec_lt i b), to (dec_lt i e))
      where
        slot : slot_of (arc_at s (h.arcstart + 8 * i)) ≡ 2 * t + d
        slot = omega (arith, x.transition, x.direction)

        from : Dec (i < b) → b ≤ i
        from (yes q) = absurd (omega (arith, slot, low.below i q))
        from (no q) = omega arith

        to : Dec (i < e) → i < e
        to (yes q) = q
        to (no q) = absurd (omega (arith, slot, high.above i (omega arith) l))

    pub in_joins : (i : ℕ) → b ≤ i → i < e → Joins d (arc_at s (h.arcstart + 8 * i)).place t s h.arcstart i
    unfolding slot_at
    in_joins i l m =
        let u = high.within in
        let x : slot_of (arc_at s (h.arcstart + 8 * i)) ≡ 2 * t + d = omega (arith, low.above i l (omega arith), high.below i m) in
        let g = (good_at s h sound i (omega arith)).direction in
        record { transition = omega arith; direction = omega arith; place = refl }
