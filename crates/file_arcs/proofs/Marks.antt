-- What the marks of a sweep and its keys say of arcs.
use Rattle.std.proofs.Common.{◌≡◌, ℕ, zero, suc, ◌+◌, ◌-◌, ◌*◌, ◌/◌, ◌%◌, ◌^◌, ◌<◌, ◌≤◌, Bool, true, false, ◌&&◌, eqb, leb, List, sym, refl, ap, ◌∙◌, arith, pow_pos, le-ltb, ne_eqb, eqb-true, leb-true}
use native.Mathlib.Decide.{dec_lt}
use native.Mathlib.Nat.{div-eq_of_lt}
use lib.Bits.{bit_and, bit_or, and_shr, and_mod, or_shr, or_mod, or_add_and, and_le_l, and_le_r, and_mask, or_lt}
use borrow.Author.Tests.{lt-leb}
use Rattle.net.specs.declared.Arc.{Arc}
use Rattle.file_words.specs.Word.{byte_at}
use Rattle.file_arcs.specs.Layout.{arc_at}
use Rattle.file_arcs.specs.Facts.{ArcWord, arc_of, arc_unfit}
use Rattle.file_arcs.specs.Refusal.{arcs_refusal, arc_wrong, key}
use Rattle.file_arcs.proofs.Laws.{arcs_on, arcs_end}
use Rattle.file_arcs.proofs.Words.{unfit-wrong}
use Rattle.file_arcs.specs.Sweep.{room_of, marks_of, both_fit, FitIn, Narrow, sweep_key}

-- ---- the marks

or_zero : (u v : ℕ) → bit_or u v ≡ 0 → (u ≡ 0) × (v ≡ 0)
or_zero u v e =
    (omega (arith, e, or_add_and u v, and_le_l u v, and_le_r u v), omega (arith, e, or_add_and u v, and_le_l u v, and_le_r u v))

or_clear : (a b k : ℕ) → bit_or a b / 2 ^ k % 2 ≡ 0 → (a / 2 ^ k % 2 ≡ 0) × (b / 2 ^ k % 2 ≡ 0)
or_clear a b k e = or_zero _ _ (sym (or_mod (a / 2 ^ k) (b / 2 ^ k) 1) ∙ sym (ap (λ (x : ℕ). x % 2) (or_shr a b k)) ∙ e)

-- a number without a bit of the mask has a 0 there
clear_at : (f m k : ℕ) → m / 2 ^ k % 2 ≡ 1 → bit_and f m ≡ 0 → f / 2 ^ k % 2 ≡ 0
clear_at f m k one e =
    let here : bit_and (f / 2 ^ k % 2) 1 ≡ 0 = ap (bit_and (f / 2 ^ k % 2)) (sym one) ∙ sym (and_mod (f / 2 ^ k) (m / 2 ^ k) 1) ∙ ap (λ (x : ℕ). x % 2) (sym (and_shr f m k) ∙ ap (λ (x : ℕ). x / 2 ^ k) e) ∙ ap (λ (x : ℕ). x % 2) (div-eq_of_lt (pow_pos k)) in
    omega (arith, here, and_mask (f / 2 ^ k % 2) 1)

-- a field without its highest bit
low_transition : (s : ℕ) → s / 2 ^ 15 % 2 ≡ 0 → s % 65536 < 32768
low_transition s e = omega (arith, e)

low_middle : (s : ℕ) → s / 2 ^ 31 % 2 ≡ 0 → s / 65536 % 65536 < 32768
low_middle s e = omega (arith, e)

low_place : (s : ℕ) → s / 2 ^ 47 % 2 ≡ 0 → s / 4294967296 % 65536 < 32768
low_place s e = omega (arith, e)

below-limit : (u x n : ℕ) → u ≡ x + (32768 - n) → u < 32768 → x < n
below-limit u x n e h = omega (arith, e, h)

less_two : (u x : ℕ) → u ≡ x + 32766 → u < 32768 → x ≤ 1
less_two u x e h = omega (arith, e, h)

-- two numbers of four fields each: where no field of the first and of the sum has its highest bit, no field runs over
module _ (t m p g T P : ℕ) (hP : P ≤ 1024) (hT : T ≤ 1024) (s : ℕ)
    (e : s ≡ (t + 65536 * m + 4294967296 * p + 281474976710656 * g + room_of P T) % 2 ^ 64)
    (ht : t < 32768) (hm : m < 32768) (hp : p < 32768) (hg : g < 65536) where
  sum-transition : s % 65536 ≡ t + (32768 - T)
  sum-transition = omega (arith, e, ht, hT)

  sum-middle : s / 65536 % 65536 ≡ m + 32766
  sum-middle = omega (arith, e, ht, hT, hm)

  sum-place : s / 4294967296 % 65536 ≡ p + (32768 - P)
  sum-place = omega (arith, e, ht, hT, hm, hp, hP)

  sum-weight : g ≡ 0 → s < 9223372036854775808
  sum-weight z = omega (arith, e, ht, hT, hm, hp, hP, z)

module _ (P T w : ℕ) (hP : P ≤ 1024) (hT : T ≤ 1024) (hw : w < 2 ^ 64) where
  -- the fields of w, and the sum by them
  sum_of : (w + room_of P T) % 2 ^ 64 ≡ (w % 65536 + 65536 * (w / 65536 % 65536) + 4294967296 * (w / 4294967296 % 65536) + 281474976710656 * (w / 281474976710656) + room_of P T) % 2 ^ 64
  sum_of = ap (λ (x : ℕ). (x + room_of P T) % 2 ^ 64) (omega arith)

  fit_in : marks_of (room_of P T) w / 2 ^ 15 % 2 ≡ 0 → marks_of (room_of P T) w / 2 ^ 31 % 2 ≡ 0 → marks_of (room_of P T) w / 2 ^ 47 % 2 ≡ 0
      → 9223372036854775808 ≤ marks_of (room_of P T) w → FitIn P T w
  fit_in a b c d =
      let s = (w + room_of P T) % 2 ^ 64 in
      let a2 = or_clear s w 15 a in
      let b2 = or_clear s w 31 b in
      let c2 = or_clear s w 47 c in
      let ht = low_transition w a2.1 in
      let hm = low_middle w b2.1 in
      let hp = low_place w c2.1 in
      let hg : w / 281474976710656 < 65536 = omega (arith, hw) in
      let st = sum-transition (w % 65536) (w / 65536 % 65536) (w / 4294967296 % 65536) (w / 281474976710656) T P hP hT s sum_of ht hm hp hg in
      let sm = sum-middle (w % 65536) (w / 65536 % 65536) (w / 4294967296 % 65536) (w / 281474976710656) T P hP hT s sum_of ht hm hp hg in
      let sp = sum-place (w % 65536) (w / 65536 % 65536) (w / 4294967296 % 65536) (w / 281474976710656) T P hP hT s sum_of ht hm hp hg in
      record {
        transition = below-limit _ _ T st (low_transition s a2.0);
        middle = less_two _ _ sm (low_middle s b2.0);
        place = below-limit _ _ P sp (low_place s c2.0);
        weight = weighs (w / 281474976710656) refl ht hm hp hg;
      }
    where
      weighs : (g : ℕ) → w / 281474976710656 ≡ g → w % 65536 < 32768 → w / 65536 % 65536 < 32768 → w / 4294967296 % 65536 < 32768 → w / 281474976710656 < 65536 → 1 ≤ w / 281474976710656
      weighs zero z ht hm hp hg =
          let low = sum-weight (w % 65536) (w / 65536 % 65536) (w / 4294967296 % 65536) (w / 281474976710656) T P hP hT ((w + room_of P T) % 2 ^ 64) sum_of ht hm hp hg z in
          let small : w < 9223372036854775808 = omega (arith, z, hw) in
          absurd (omega (arith, d, or_lt 63 ((w + room_of P T) % 2 ^ 64) w low small))
      weighs (suc g) z ht hm hp hg = omega (arith, z)

and_sides : (a b : Bool) → (a && b) ≡ true → (a ≡ true) × (b ≡ true)
and_sides true true e = (refl, refl)
and_sides true false e = let z : ◌≡◌ {A = ℕ} 0 1 = cc in absurd (omega (arith, z))
and_sides false b e = let z : ◌≡◌ {A = ℕ} 0 1 = cc in absurd (omega (arith, z))

pub both_fit_lem : (P T w v : ℕ) → P ≤ 1024 → T ≤ 1024 → w < 2 ^ 64 → v < 2 ^ 64 → both_fit (room_of P T) w v ≡ true → FitIn P T w × FitIn P T v
both_fit_lem P T w v hP hT hw hv e =
    let a = marks_of (room_of P T) w in
    let b = marks_of (room_of P T) v in
    let sides = and_sides (eqb (bit_and (bit_or a b) 0x800080008000) 0) (leb 0x8000000000000000 (bit_and a b)) e in
    let none = eqb-true (bit_and (bit_or a b) 0x800080008000) 0 sides.0 in
    let high = leb-true 0x8000000000000000 (bit_and a b) sides.1 in
    let d15 = or_clear a b 15 (clear_at (bit_or a b) 0x800080008000 15 refl none) in
    let d31 = or_clear a b 31 (clear_at (bit_or a b) 0x800080008000 31 refl none) in
    let d47 = or_clear a b 47 (clear_at (bit_or a b) 0x800080008000 47 refl none) in (
      fit_in P T w hP hT hw d15.0 d31.0 d47.0 (omega (arith, high, and_le_l a b)),
      fit_in P T v hP hT hv d15.1 d31.1 d47.1 (omega (arith, high, and_le_r a b)),
    )

-- ---- the order

abbrev pub order_key : ℕ → ℕ
order_key x = 131072 * (x % 65536) + 65536 * (x / 65536 % 65536) + x / 4294967296

ordered : (t m p u n q : ℕ) → t < 1024 → m ≤ 1 → p < 1024 → u < 1024 → n ≤ 1 → q < 1024
    → 4503633987109376 * t + 2251799847239680 * m + 2199023255552 * p ≤ 4503633987109376 * u + 2251799847239680 * n + 2199023255552 * q
    → 131072 * t + 65536 * m + p ≤ 131072 * u + 65536 * n + q
ordered t m p u n q ht hm hp hu hn hq h = go (dec_lt t u) (dec_lt u t)
  where
    within : (m p n q : ℕ) → m ≤ 1 → p < 1024 → n ≤ 1 → q < 1024 → 2251799847239680 * m + 2199023255552 * p ≤ 2251799847239680 * n + 2199023255552 * q → 65536 * m + p ≤ 65536 * n + q
    within zero p zero q hm hp hn hq h = omega (arith, h)
    within zero p (suc n) q hm hp hn hq h = omega (arith, hp)
    within (suc m) p zero q hm hp hn hq h = absurd (omega (arith, h, hq))
    within (suc m) p (suc n) q hm hp hn hq h = omega (arith, h, hm, hn)

    later : (t u a b : ℕ) → u < t → b < 4503633987109376 → 4503633987109376 * t + a ≤ 4503633987109376 * u + b → ⊥
    later t u a b l hb h = omega (arith, l, hb, h)

    go : Dec (t < u) → Dec (u < t) → 131072 * t + 65536 * m + p ≤ 131072 * u + 65536 * n + q
    go (yes l) e = omega (arith, l, hm, hp)
    go (no l) (yes g) = absurd (later t u (2251799847239680 * m + 2199023255552 * p) (2251799847239680 * n + 2199023255552 * q) g (omega (arith, hn, hq)) (omega (arith, h)))
    go (no l) (no g) =
        let e : t ≡ u = omega (arith, l, g) in
        let i = within m p n q hm hp hn hq (omega (arith, h, e)) in
        omega (arith, i, e)

order_later : (x y : ℕ) → Narrow x → Narrow y → sweep_key x ≤ sweep_key y → order_key x ≤ order_key y
order_later x y n m g =
    let i = ordered (x % 65536) (x / 65536 % 65536) (x / 4294967296) (y % 65536) (y / 65536 % 65536) (y / 4294967296) n.transition n.middle n.place m.transition m.middle m.place (omega (arith, g)) in
    omega (arith, i)

-- the fields of a number without its weight
cut-transition : (w : ℕ) → w % 281474976710656 % 65536 ≡ w % 65536
cut-transition w = omega arith

cut-middle : (w : ℕ) → w % 281474976710656 / 65536 % 65536 ≡ w / 65536 % 65536
cut-middle w = omega arith

cut-place : (w : ℕ) → w % 281474976710656 / 4294967296 ≡ w / 4294967296 % 65536
cut-place w = omega arith

-- a number that fits, without its weight
pub narrow : (P T w : ℕ) → P ≤ 1024 → T ≤ 1024 → FitIn P T w → Narrow (w % 281474976710656)
narrow P T w hP hT f =
    record {
      transition = rw (cut-transition w) (omega (arith, f.transition, hT));
      middle = rw (cut-middle w) f.middle;
      place = rw (cut-place w) (omega (arith, f.place, hP));
    }

-- ---- the arcs that were gone through

small_middle : (u : ℕ) → u % 65536 ≤ 1 → u % 256 ≡ u % 65536
small_middle u h = omega (arith, h)

module _ (s : List ℕ) (P T at w : ℕ) (word : ArcWord s at w) (f : FitIn P T w) where
  fit_right : arc_wrong P T (arc_at s at) (byte_at s (at + 3)) ≡ false
  fit_right =
      sym (unfit-wrong P T (arc_at s at) (byte_at s (at + 3)))
      ∙ ap (λ (a : Arc). arc_unfit P T a ((arc_at s at).direction + 256 * byte_at s (at + 3))) (sym word.arc)
      ∙ ap (arc_unfit P T (arc_of w)) (sym word.middle)
      ∙ rw (le-ltb 1 (w / 65536 % 65536) f.middle, lt-leb P (w / 4294967296 % 65536) f.place, lt-leb T (w % 65536) f.transition, ne_eqb (w / 281474976710656) 0 (λ e. omega (arith, e, f.weight)))

  fit_key : key (arc_at s at) ≡ order_key (w % 281474976710656)
  fit_key =
      ap key (sym word.arc)
      ∙ rw (cut-transition w, cut-middle w, cut-place w, small_middle (w / 65536) f.middle)

-- the refusal of all arcs is that of those that are left, of which the first may have any key from `least` on
pub record Reached (s : List ℕ) (P T start count at least left : ℕ) : Type 0 where
  pub from : ℕ
  pub same : arcs_refusal s P T start 0 count ≡ arcs_refusal s P T at from left
  pub above : (x : ℕ) → Narrow x → least ≤ sweep_key x → from ≤ order_key x

pub at_start : (s : List ℕ) (P T start count : ℕ) → Reached s P T start count start 0 count
at_start s P T start count = record { from = 0; same = refl; above = λ x h l. omega arith }

pub one_on : (s : List ℕ) (P T start count at least left w : ℕ) → P ≤ 1024 → T ≤ 1024 → Reached s P T start count at least left → 0 < left → ArcWord s at w → FitIn P T w
    → least ≤ sweep_key (w % 281474976710656) → Reached s P T start count (at + 8) (sweep_key (w % 281474976710656)) (left - 1)
one_on s P T start count at least left w hP hT r h word f l =
    let x = w % 281474976710656 in
    let n = narrow P T w hP hT f in
    record {
      from = key (arc_at s at);
      same = r.same ∙ arcs_on s P T at r.from left h (fit_right s P T at w word f) (rw (fit_key s P T at w word f) (r.above x n l));
      above = λ y m g. rw (fit_key s P T at w word f) (order_later x y n m g);
    }

pub two_on : (s : List ℕ) (P T start count at least left w v first second : ℕ) → P ≤ 1024 → T ≤ 1024 → Reached s P T start count at least left → 1 < left
    → ArcWord s at w → ArcWord s (at + 8) v → FitIn P T w × FitIn P T v
    → first ≡ sweep_key (w % 281474976710656) → second ≡ sweep_key (v % 281474976710656) → least ≤ first → first ≤ second
    → Reached s P T start count (at + 16) second (left - 2)
two_on s P T start count at least left w v first second hP hT r h one two f e g l m =
    let here = one_on s P T start count at least left w hP hT r (omega (arith, h)) one f.0 (omega (arith, e, l)) in
    let next = one_on s P T start count (at + 8) (sweep_key (w % 281474976710656)) (left - 1) v hP hT here (omega (arith, h)) two f.1 (omega (arith, e, g, m)) in
    let a : at + 8 + 8 ≡ at + 16 = omega arith in
    let b : left - 1 - 1 ≡ left - 2 = omega arith in
    record {
      from = next.from;
      same = rw (← a, ← b) next.same;
      above = λ x n k. next.above x n (omega (arith, g, k));
    }

pub all_done : (s : List ℕ) (P T start count at least left : ℕ) → Reached s P T start count at least left → left ≤ 0 → arcs_refusal s P T start 0 count ≡ 0
all_done s P T start count at least left r h = r.same ∙ arcs_end s P T at r.from left h
