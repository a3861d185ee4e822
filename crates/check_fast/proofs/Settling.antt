-- An arc of a transition left out that its effect settles.
use Prim.Native.Nat.{ℕ, zero, suc, ◌+◌, ◌-◌, ◌*◌, ◌/◌, ◌%◌, ◌≤◌, ◌<◌}
use mathlib.Core.Path.{◌≡◌, refl, sym, ap, ◌∙◌, subst}
use mathlib.Core.Bool.{Bool, true, false, cond, ◌&&◌, ◌||◌}
use mathlib.Core.List.{List}
use native.Mathlib.Omega.{arith}
use lib.Dec.{ltb, eqb, eqb→eq}
use lib.IntN.{ℤ, pos, negsuc, ◌-ℤ◌}
use lib.Signed.{le_z}
use borrow.Author.Tests.{ltb-true, ltb-false, leb-true, le-ltb, eq-eqb}
use Rattle.net.specs.Numbers.{among}
use Rattle.net.specs.Net.{Net, input, output, effect, changes, raises}
use Rattle.net.specs.declared.Arc.{Arc}
use Rattle.net.proofs.Numbers.{holds, is_true, by_or, and_left, and_right}
use Rattle.file_arcs.specs.Layout.{arc_at}
use Rattle.file.specs.Layout.{net_from, slice_from}
use Rattle.file_arcs.specs.Facts.{ArcWord, arc_of}
use Rattle.file_header.specs.declared.Header.{Header}
use Rattle.check_fast.specs.Pass.{Ready, joined_of, kept_of, Settled}
use Rattle.check_fast.proofs.Ends.{apart, raising, changing}
use Rattle.check_fast.proofs.Walking.{good_word, word-ends, left-out_here}

-- ---- the sign of a difference

low_by : {A : Type 0} (b : Bool) (m n : ℕ) → le_z (cond b (negsuc m) (pos n)) (pos 0) ≡ true → (b ≡ true → A) → (b ≡ false → n ≤ 0 → A) → A
low_by true m n e f g = f refl
low_by false m n e f g = g refl (leb-true n 0 e)

high_by : {A : Type 0} (b : Bool) (m n : ℕ) → le_z (pos 0) (cond b (negsuc m) (pos n)) ≡ true → (b ≡ false → A) → A
high_by true m n e f = apart e refl
high_by false m n e f = f refl

not-above : (a b : ℕ) → le_z (pos a -ℤ pos b) (pos 0) ≡ true → a ≤ b
not-above a zero e = omega (arith, leb-true (a + 0) 0 e)
not-above a (suc b) e = low_by (ltb a (suc b)) (suc b - suc a) (a - suc b) e (λ h. omega (arith, ltb-true a (suc b) h)) (λ h n. omega arith)

not-below : (a b : ℕ) → le_z (pos 0) (pos a -ℤ pos b) ≡ true → b ≤ a
not-below a zero e = omega arith
not-below a (suc b) e = high_by (ltb a (suc b)) (suc b - suc a) (a - suc b) e (λ h. omega (arith, ltb-false a (suc b) h))

-- ---- rules 6, 8 and 10

module _ (N : Net) (p t : ℕ) (e : ℤ) (is : e ≡ effect N p t) where
  pub unraised : le_z e (pos 0) ≡ true → raises N t p ≡ false
  unfolding effect raises
  unraised h = le-ltb (input N p t) (output N p t) (not-above (output N p t) (input N p t) (ap (λ (x : ℤ). le_z x (pos 0)) (sym is) ∙ h))

  balanced : (le_z e (pos 0) && le_z (pos 0) e) ≡ true → input N p t ≡ output N p t
  unfolding effect
  balanced h =
      let both = holds _ h in
      let one = not-above (output N p t) (input N p t) (ap (λ (x : ℤ). le_z x (pos 0)) (sym is) ∙ is_true _ (and_left (le_z e (pos 0)) (le_z (pos 0) e) both)) in
      let two = not-below (output N p t) (input N p t) (ap (le_z (pos 0)) (sym is) ∙ is_true _ (and_right (le_z e (pos 0)) (le_z (pos 0) e) both)) in
      omega arith

  unchanged : (le_z e (pos 0) && le_z (pos 0) e) ≡ true → changes N t p ≡ false
  unfolding changes
  unchanged h = rw (eq-eqb (input N p t) (output N p t) (balanced h))

out_of : (a b : Bool) → b ≡ false → (a && b) ≡ false
out_of true b e = e
out_of false b e = refl

module _ (plan : List ℕ) (hp : Header) (slice : List ℕ) (hs : Header) (Q places transitions : List ℕ) (r : Ready plan hp slice hs Q places transitions) (j : ℕ) (l : j < hp.arcs) (w : ℕ) (is : ArcWord plan (hp.arcstart + 8 * j) w) (wl : w < 18446744073709551616) (z : ℕ) (sum : z ≡ joined_of w places transitions) (a : Arc) (arc : a ≡ arc_of w) (e : ℤ) (ef : e ≡ effect (net_from plan hp) a.place a.transition) where
  here : e ≡ effect (net_from plan hp) (arc_of w).place (arc_of w).transition
  here = ef ∙ ap (λ (x : Arc). effect (net_from plan hp) x.place x.transition) arc

  there : Settled plan hp slice hs Q 11 (arc_of w) → Settled plan hp slice hs Q 11 (arc_at plan (hp.arcstart + 8 * j))
  there s = subst (Settled plan hp slice hs Q 11) is.arc s

  pub settled_raise : z / 65536 % 65536 ≡ 8 → le_z e (pos 0) ≡ true → Settled plan hp slice hs Q 11 (arc_at plan (hp.arcstart + 8 * j))
  settled_raise f h =
      let k = raising (good_word plan hp slice hs Q places transitions r j l w is wl).direction (word-ends plan hp slice hs Q places transitions r j l w is wl z sum) f in
      there (record {
        fine = record {
          fed = λ g t d. apart t k.0;
          unchanged = λ g t q. apart q k.1;
          unraised = λ g t p d. unraised (net_from plan hp) (arc_of w).place (arc_of w).transition e here h;
          held = λ g t d c. apart t k.0;
        };
        out = out_of (among (arc_of w).place (slice_from slice hs).place_origins) (among (arc_of w).transition (slice_from slice hs).transition_origins) k.0;
      })

  pub settled_change : 9 ≤ z / 65536 % 65536 → z / 65536 % 65536 ≤ 10 → (le_z e (pos 0) && le_z (pos 0) e) ≡ true → Settled plan hp slice hs Q 11 (arc_at plan (hp.arcstart + 8 * j))
  settled_change f g h =
      let k = changing (good_word plan hp slice hs Q places transitions r j l w is wl).direction (word-ends plan hp slice hs Q places transitions r j l w is wl z sum) f g in
      there (record {
        fine = record {
          fed = λ g t d. apart t k;
          unchanged = λ g t q. unchanged (net_from plan hp) (arc_of w).place (arc_of w).transition e here h;
          unraised = λ g t p d. unraised (net_from plan hp) (arc_of w).place (arc_of w).transition e here (is_true _ (and_left (le_z e (pos 0)) (le_z (pos 0) e) (holds _ h)));
          held = λ g t d c. apart t k;
        };
        out = out_of (among (arc_of w).place (slice_from slice hs).place_origins) (among (arc_of w).transition (slice_from slice hs).transition_origins) k;
      })

-- a rule in doubt where nothing was looked up
module _ (plan : List ℕ) (hp : Header) (slice : List ℕ) (hs : Header) (Q places transitions : List ℕ) (r : Ready plan hp slice hs Q places transitions) (j : ℕ) (l : j < hp.arcs) (w : ℕ) (is : ArcWord plan (hp.arcstart + 8 * j) w) (wl : w < 18446744073709551616) (z : ℕ) (sum : z ≡ joined_of w places transitions) where
  pub eighth_in_doubt : z / 65536 % 65536 ≡ 8 → Settled plan hp slice hs Q 8 (arc_at plan (hp.arcstart + 8 * j))
  eighth_in_doubt f =
      let k = raising (good_word plan hp slice hs Q places transitions r j l w is wl).direction (word-ends plan hp slice hs Q places transitions r j l w is wl z sum) f in
      subst (Settled plan hp slice hs Q 8) is.arc (record {
        fine = record { fed = λ g t d. apart t k.0; unchanged = λ g t q. apart q k.1; unraised = λ g. absurd (omega arith); held = λ g. absurd (omega arith) };
        out = out_of (among (arc_of w).place (slice_from slice hs).place_origins) (among (arc_of w).transition (slice_from slice hs).transition_origins) k.0;
      })

  pub sixth_in_doubt : kept_of z ≡ false → Settled plan hp slice hs Q 6 (arc_at plan (hp.arcstart + 8 * j))
  sixth_in_doubt e = record {
    fine = record { fed = λ g. absurd (omega arith); unchanged = λ g. absurd (omega arith); unraised = λ g. absurd (omega arith); held = λ g. absurd (omega arith) };
    out = left-out_here plan hp slice hs Q places transitions r j l w is wl z sum e;
  }

-- one of two flags
pub nine_ten : (f : ℕ) → (eqb f 9 || eqb f 10) ≡ true → (9 ≤ f) × (f ≤ 10)
nine_ten f e = by_or (eqb f 9) (eqb f 10) (holds _ e) (λ t. let h = eqb→eq f 9 t in (omega arith, omega arith)) (λ t. let h = eqb→eq f 10 t in (omega arith, omega arith))
