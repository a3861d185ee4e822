-- Laws of groups of parallel arcs.
use Prim.Native.Nat.{ℕ, zero, suc, ◌+◌, ◌-◌, ◌*◌, ◌/◌, ◌%◌, ◌≤◌, ◌<◌}
use mathlib.Core.Bool.{Bool, true, false, ◌&&◌}
use mathlib.Core.List.{List}
use mathlib.Core.Path.{◌≡◌, refl, sym, ap, ◌∙◌}
use native.Mathlib.Omega.{arith}
use native.Mathlib.Decide.{dec_lt}
use lib.Dec.{eqb}
use borrow.Author.Tests.{eqb-true, eq-eqb}
use Rattle.net.specs.Net.{weight_on}
use Rattle.net.specs.declared.Arc.{Arc}
use Rattle.file_arcs.specs.Layout.{arc_at, arcs_from}
use Rattle.file_arcs.specs.Facts.{ArcWord}
use Rattle.file.specs.Facts.{Sound}
use Rattle.file_arcs.specs.Refusal.{key}
use Rattle.file_header.specs.declared.Header.{Header}
use Rattle.file_arcs.proofs.Rows.{key-le, weight_none, weight_next}
use Rattle.file.proofs.Rows.{good_at}
use Rattle.arcs_column.specs.Ways.{place_at, transition_at, direction_at, Joins}
use Rattle.arcs_column.proofs.Shares.{share-is, share-unless, sum_same}
use Rattle.arcs_groups.specs.Groups

-- ---- the test of two arcs, each as one number

module _ (s : List ℕ) (start j i v w : ℕ) (x : ArcWord s (start + 8 * i) v) (y : ArcWord s (start + 8 * j) w) where
  pub parallel_is : v % 16777216 ≡ w % 16777216 → v / 4294967296 % 65536 ≡ w / 4294967296 % 65536 → Groups.Parallel s start j i
  parallel_is e f = record {
    transition = sym (ap (λ (a : Arc). a.transition) x.arc) ∙ omega arith ∙ ap (λ (a : Arc). a.transition) y.arc;
    direction = sym (ap (λ (a : Arc). a.direction) x.arc) ∙ omega arith ∙ ap (λ (a : Arc). a.direction) y.arc;
    place = sym (ap (λ (a : Arc). a.place) x.arc) ∙ f ∙ ap (λ (a : Arc). a.place) y.arc;
  }

  is_parallel : Groups.Parallel s start j i → (v % 16777216 ≡ w % 16777216) × (v / 4294967296 % 65536 ≡ w / 4294967296 % 65536)
  is_parallel p =
      let t : v % 65536 ≡ w % 65536 = ap (λ (a : Arc). a.transition) x.arc ∙ p.transition ∙ sym (ap (λ (a : Arc). a.transition) y.arc) in
      let d : v / 65536 % 256 ≡ w / 65536 % 256 = ap (λ (a : Arc). a.direction) x.arc ∙ p.direction ∙ sym (ap (λ (a : Arc). a.direction) y.arc) in
      (omega arith, ap (λ (a : Arc). a.place) x.arc ∙ p.place ∙ sym (ap (λ (a : Arc). a.place) y.arc))

  pub test_true : eqb (v % 16777216) (w % 16777216) && eqb (v / 4294967296 % 65536) (w / 4294967296 % 65536) ≡ true → Groups.Parallel s start j i
  test_true e = go (eqb (v % 16777216) (w % 16777216)) (eqb (v / 4294967296 % 65536) (w / 4294967296 % 65536)) refl refl e
    where
      go : (a b : Bool) → eqb (v % 16777216) (w % 16777216) ≡ a → eqb (v / 4294967296 % 65536) (w / 4294967296 % 65536) ≡ b → a && b ≡ true → Groups.Parallel s start j i
      go true true f g q = parallel_is (eqb-true _ _ f) (eqb-true _ _ g)
      go true false f g q = absurd (let z : ◌≡◌ {A = ℕ} 0 1 = cc in omega arith)
      go false b f g q = absurd (let z : ◌≡◌ {A = ℕ} 0 1 = cc in omega arith)

  pub test_false : eqb (v % 16777216) (w % 16777216) && eqb (v / 4294967296 % 65536) (w / 4294967296 % 65536) ≡ false → Groups.Parallel s start j i → ⊥
  test_false e p =
      let q = is_parallel p in
      let z : eqb (v % 16777216) (w % 16777216) && eqb (v / 4294967296 % 65536) (w / 4294967296 % 65536) ≡ true = rw (eq-eqb (v % 16777216) (w % 16777216) q.0, eq-eqb (v / 4294967296 % 65536) (w / 4294967296 % 65536) q.1) in
      let o : ◌≡◌ {A = ℕ} 0 1 = cc in omega arith

-- ---- the arcs that were found parallel to arc j

pub only_one : (s : List ℕ) (start j : ℕ) (i : ℕ) → j ≤ i → i < j + 1 → Groups.Parallel s start j i
only_one s start j i l m = let e : i ≡ j = omega arith in rw e (record { transition = refl; direction = refl; place = refl })

pub one_more : (s : List ℕ) (start j e : ℕ) → ((i : ℕ) → j ≤ i → i < e → Groups.Parallel s start j i) → Groups.Parallel s start j e → (i : ℕ) → j ≤ i → i < e + 1 → Groups.Parallel s start j i
one_more s start j e f x i l m = go (dec_lt i e)
  where
    go : Dec (i < e) → Groups.Parallel s start j i
    go (yes q) = f i l q
    go (no q) = let z : i ≡ e = omega arith in rw z x

-- ---- sums

pub run_none : (s : List ℕ) (start j : ℕ) → Groups.run_weight s start j (j - j) ≡ 0
unfolding Groups.run_weight
run_none s start j = let e : j - j ≡ 0 = omega arith in rw e

pub run_more : (s : List ℕ) (start j i : ℕ) → j ≤ i → Groups.run_weight s start j (i + 1 - j) ≡ Groups.run_weight s start j (i - j) + Groups.weight_at s start i
unfolding Groups.run_weight
run_more s start j i l =
    let e : i + 1 - j ≡ suc (i - j) = omega arith in
    let f : j + (i - j) ≡ i = omega arith in
    rw (e, f)

pub run-one : (s : List ℕ) (start j : ℕ) → Groups.run_weight s start j (j + 1 - j) ≡ Groups.weight_at s start j
run-one s start j = omega (arith, run_none s start j, run_more s start j j (omega arith))

-- arcs that all join p and t add the sum of their weights
run-adds_by : (d p t : ℕ) (s : List ℕ) (start j n : ℕ) → ((i : ℕ) → j ≤ i → i < j + n → Joins d p t s start i)
    → weight_on d p t (arcs_from s start (j + n)) ≡ weight_on d p t (arcs_from s start j) + Groups.run_weight s start j n
unfolding Groups.run_weight
run-adds_by d p t s start j zero f = let e : j + 0 ≡ j = omega arith in rw e (omega arith)
run-adds_by d p t s start j (suc n) f =
    let e : j + suc n ≡ suc (j + n) = omega arith in
    let x = f (j + n) (omega arith) (omega arith) in
    rw e (omega (arith, weight_next d p t s start (j + n), share-is d p t (arc_at s (start + 8 * (j + n))) x.transition x.direction x.place, run-adds_by d p t s start j n (λ i a b. f i a (omega arith))))

pub run-adds : (d p t : ℕ) (s : List ℕ) (start j e : ℕ) → j ≤ e → ((i : ℕ) → j ≤ i → i < e → Joins d p t s start i)
    → weight_on d p t (arcs_from s start e) ≡ weight_on d p t (arcs_from s start j) + Groups.run_weight s start j (e - j)
run-adds d p t s start j e l f =
    let q : j + (e - j) ≡ e = omega arith in
    rw q at (run-adds_by d p t s start j (e - j) (λ i a b. f i a (omega arith)))

pub alike : (s : List ℕ) (start j to e : ℕ) → Groups.GroupEnd s start j to e → Groups.Alike s start j e
alike s start j to e g = record { after = g.after; same = g.same }

pub alone : (s : List ℕ) (start j : ℕ) → Groups.Alike s start j (j + 1)
alone s start j = record { after = omega arith; same = only_one s start j }

-- all that the first e arcs have of a group that ends with them
pub alike_sum : (s : List ℕ) (start j e : ℕ) → Groups.Alike s start j e → Groups.Opens s start j
    → weight_on (direction_at s start j) (place_at s start j) (transition_at s start j) (arcs_from s start e) ≡ Groups.run_weight s start j (e - j)
alike_sum s start j e g opens =
    let d = direction_at s start j in
    let p = place_at s start j in
    let t = transition_at s start j in
    let a = g.after in
    omega (
      arith,
      weight_none d p t s start,
      sum_same d p t s start 0 j (omega arith) (λ i u v. share-unless d p t (arc_at s (start + 8 * i)) (λ x y z. opens i v (record { transition = x; direction = y; place = z }))),
      run-adds d p t s start j e (omega arith) g.same,
    )

-- ---- in a file that was read

-- equal numbers of order are of the same two and the same direction
same_place : (a b d e p q : ℕ) → 131072 * a + 65536 * d + p ≡ 131072 * b + 65536 * e + q → d ≤ 1 → e ≤ 1 → p < 65536 → q < 65536 → p ≡ q
same_place a b d e p q l u v w x = omega arith

same_direction : (a b d e p q : ℕ) → 131072 * a + 65536 * d + p ≡ 131072 * b + 65536 * e + q → d ≤ 1 → e ≤ 1 → p < 65536 → q < 65536 → d ≡ e
same_direction a b d e p q l u v w x = omega arith

same_transition : (a b d e p q : ℕ) → 131072 * a + 65536 * d + p ≡ 131072 * b + 65536 * e + q → d ≤ 1 → e ≤ 1 → p < 65536 → q < 65536 → a ≡ b
same_transition a b d e p q l u v w x = omega arith

module _ (s : List ℕ) (h : Header) (sound : Sound s h) where
  by_key : (i j : ℕ) → i < h.arcs → j < h.arcs → key (arc_at s (h.arcstart + 8 * i)) ≡ key (arc_at s (h.arcstart + 8 * j)) → Groups.Parallel s h.arcstart j i
  by_key i j l m e =
      let a = good_at s h sound i l in
      let b = good_at s h sound j m in
      let c = sound.placed.places in
      let p : place_at s h.arcstart i < 65536 = omega (arith, a.place) in
      let q : place_at s h.arcstart j < 65536 = omega (arith, b.place) in
      record {
        transition = same_transition _ _ _ _ _ _ e a.direction b.direction p q;
        direction = same_direction _ _ _ _ _ _ e a.direction b.direction p q;
        place = same_place _ _ _ _ _ _ e a.direction b.direction p q;
      }

  -- what stands between two parallel arcs is parallel to them
  pub between : (i k j : ℕ) → i ≤ k → k ≤ j → j < h.arcs → Groups.Parallel s h.arcstart i j → Groups.Parallel s h.arcstart i k
  between i k j l m n x =
      by_key k i (omega arith) (omega arith) (omega (
        arith,
        x.transition,
        x.direction,
        x.place,
        key-le s h.arcstart 0 h.arcs i k sound.order l (omega arith),
        key-le s h.arcstart 0 h.arcs k j sound.order m n,
      ))

  module _ (j to e : ℕ) (within : to ≤ h.arcs) (g : Groups.GroupEnd s h.arcstart j to e) where
    -- no parallel arc comes after the group
    pub none_after : (k : ℕ) → e ≤ k → k < to → Groups.Parallel s h.arcstart j k → ⊥
    none_after k l m x = let a = g.after in g.other (omega arith) (between j e k (omega arith) l (omega arith) x)

    -- the next group opens
    pub opens_next : e < to → Groups.Opens s h.arcstart e
    opens_next m i l x = go (dec_lt i j)
      where
        turned : (k : ℕ) → Groups.Parallel s h.arcstart e k → Groups.Parallel s h.arcstart k e
        turned k y = record { transition = sym y.transition; direction = sym y.direction; place = sym y.place }

        go : Dec (i < j) → ⊥
        go (no q) =
            let y = g.same i (omega arith) l in
            g.other m (record { transition = sym x.transition ∙ y.transition; direction = sym x.direction ∙ y.direction; place = sym x.place ∙ y.place })
        go (yes q) =
            let a = g.after in
            let y = between i j e (omega arith) (omega arith) (omega arith) (turned i x) in
            g.other m (record { transition = sym x.transition ∙ sym y.transition; direction = sym x.direction ∙ sym y.direction; place = sym x.place ∙ sym y.place })

    -- the sum of a group is all that its transition takes or gives there
    pub group_sum : Groups.Opens s h.arcstart j → (m : ℕ) → e ≤ m → m ≤ to
        → weight_on (direction_at s h.arcstart j) (place_at s h.arcstart j) (transition_at s h.arcstart j) (arcs_from s h.arcstart m) ≡ Groups.run_weight s h.arcstart j (e - j)
    group_sum opens m l n =
        let d = direction_at s h.arcstart j in
        let p = place_at s h.arcstart j in
        let t = transition_at s h.arcstart j in
        let a = g.after in
        omega (
          arith,
          weight_none d p t s h.arcstart,
          sum_same d p t s h.arcstart 0 j (omega arith) (λ i u v. share-unless d p t (arc_at s (h.arcstart + 8 * i)) (λ x y z. opens i v (record { transition = x; direction = y; place = z }))),
          run-adds d p t s h.arcstart j e (omega arith) g.same,
          sum_same d p t s h.arcstart e m l (λ i u v. share-unless d p t (arc_at s (h.arcstart + 8 * i)) (λ x y z. none_after i u (omega arith) (record { transition = x; direction = y; place = z }))),
        )
