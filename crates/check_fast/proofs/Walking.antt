-- The plan's arcs against the slice's, arc by arc.
use Prim.Native.Nat.{ℕ, ◌+◌, ◌-◌, ◌*◌, ◌/◌, ◌%◌, ◌≤◌, ◌<◌}
use mathlib.Core.Path.{◌≡◌, refl, sym, ap, ◌∙◌, subst}
use mathlib.Core.Bool.{Bool, true, false, ◌&&◌}
use mathlib.Core.List.{List, ◌∷◌}
use native.Mathlib.Omega.{arith}
use native.Mathlib.Nat.{div-div-eq-div-mul}
use lib.ListN.{length}
use lib.Bits.{bit_or, bit_xor, or_add_and, xor_add_and, and_le_l, and_le_r, or_zero_r, or_mod, or_shr, xor_mod, xor_shr}
use lib.Dec.{ltb, eqb, eqb→eq}
use borrow.Author.Tests.{ltb-true, ltb-false}
use borrow.Author.Count.{below_more}
use Rattle.net.specs.Numbers.{among}
use Rattle.net.specs.Net.{Net, counted}
use Rattle.net.specs.Slice.{renumber, restrict}
use Rattle.net.specs.declared.Arc.{Arc}
use Rattle.net.proofs.Numbers.{by_cases, holds, and_left, and_right}
use Rattle.file_words.specs.Word.{byte_at}
use Rattle.file_arcs.specs.Layout.{arc_at, arcs_from}
use Rattle.file.specs.Layout.{net_from, slice_from}
use Rattle.file_arcs.specs.Facts.{ArcGood, ArcWord, arc_of}
use Rattle.file.specs.Facts.{Sound}
use Rattle.file_header.specs.declared.Header.{Header}
use Rattle.file_arcs.proofs.Rows.{range_at}
use Rattle.rules_tables.proofs.Rows.{row_cons, row_end, restrict-in, restrict-out, restrict-none}
use Rattle.check_fast.specs.Pass.{Ready, joined_of, kept_of, odd_of, quiet_of, watched, Fine, FineIn, Settled, Walked, Passed}
use Rattle.check_fast.proofs.Sums.{Alike}
use Rattle.check_fast.proofs.Ends.{Ends, spare, ends, sum_below, ends_kept, due_arc, end_out, arc-fine}

-- ---- bits

none_of : (a b : ℕ) → bit_or a b ≡ 0 → (a ≡ 0) × (b ≡ 0)
none_of a b e = (omega (arith, or_add_and a b, and_le_l a b, and_le_r a b), omega (arith, or_add_and a b, and_le_l a b, and_le_r a b))

same_bits : (a b : ℕ) → bit_xor a b ≡ 0 → a ≡ b
same_bits a b e = omega (arith, xor_add_and a b, and_le_l a b, and_le_r a b)

-- the bits that count are 0
pub record Quiet (d : ℕ) : Type 0 where
  pub first : d % 1024 ≡ 0
  pub second : d / 2048 % 64 ≡ 0
  pub third : d / 262144 % 16777216 ≡ 0
  pub fourth : d / 8796093022208 ≡ 0

quiet_is : (d : ℕ) → quiet_of d ≡ true → Quiet d
quiet_is d e =
    let a = eqb (d % 1024) 0 in
    let b = eqb (d / 2048 % 64) 0 in
    let c = eqb (d / 262144 % 16777216) 0 in
    let f = eqb (d / 8796093022208) 0 in
    let four = holds (a && b && c && f) e in
    let three = and_left (a && b && c) f four in
    let two = and_left (a && b) c three in
    record {
      first = eqb→eq _ _ (and_left a b two);
      second = eqb→eq _ _ (and_right a b two);
      third = eqb→eq _ _ (and_right (a && b) c three);
      fourth = eqb→eq _ _ (and_right (a && b && c) f four);
    }

is_quiet : (d : ℕ) → Quiet d → quiet_of d ≡ true
is_quiet d q = rw (q.first, q.second, q.third, q.fourth)

module _ (a b : ℕ) (q : Quiet (bit_or a b)) where
  or_1 : (a % 1024 ≡ 0) × (b % 1024 ≡ 0)
  or_1 = none_of (a % 1024) (b % 1024) (sym (or_mod a b 10) ∙ q.first)

  or_2 : (a / 2048 % 64 ≡ 0) × (b / 2048 % 64 ≡ 0)
  or_2 = none_of (a / 2048 % 64) (b / 2048 % 64) (sym (or_mod (a / 2048) (b / 2048) 6) ∙ ap (λ (n : ℕ). n % 64) (sym (or_shr a b 11)) ∙ q.second)

  or_3 : (a / 262144 % 16777216 ≡ 0) × (b / 262144 % 16777216 ≡ 0)
  or_3 = none_of (a / 262144 % 16777216) (b / 262144 % 16777216) (sym (or_mod (a / 262144) (b / 262144) 24) ∙ ap (λ (n : ℕ). n % 16777216) (sym (or_shr a b 18)) ∙ q.third)

  or_4 : (a / 8796093022208 ≡ 0) × (b / 8796093022208 ≡ 0)
  or_4 = none_of (a / 8796093022208) (b / 8796093022208) (sym (or_shr a b 43) ∙ q.fourth)

  quiet_left : Quiet a
  quiet_left = record { first = or_1.0; second = or_2.0; third = or_3.0; fourth = or_4.0 }

  quiet_right : Quiet b
  quiet_right = record { first = or_1.1; second = or_2.1; third = or_3.1; fourth = or_4.1 }

like : (a b : ℕ) → Quiet (bit_xor a b) → Alike a b
like a b q = record {
  first = same_bits (a % 1024) (b % 1024) (sym (xor_mod a b 10) ∙ q.first);
  second = same_bits (a / 2048 % 64) (b / 2048 % 64) (sym (xor_mod (a / 2048) (b / 2048) 6) ∙ ap (λ (n : ℕ). n % 64) (sym (xor_shr a b 11)) ∙ q.second);
  third = same_bits (a / 262144 % 16777216) (b / 262144 % 16777216) (sym (xor_mod (a / 262144) (b / 262144) 24) ∙ ap (λ (n : ℕ). n % 16777216) (sym (xor_shr a b 18)) ∙ q.third);
  fourth = same_bits (a / 8796093022208) (b / 8796093022208) (sym (xor_shr a b 43) ∙ q.fourth);
}

-- ---- rows of arcs

row_whole : (s : List ℕ) (start n : ℕ) → arcs_from s (start + 8 * 0) (n - 0) ≡ arcs_from s start n
row_whole s start n =
    let e : start + 8 * 0 ≡ start = omega arith in
    let f : n - 0 ≡ n = omega arith in
    ap (λ (at : ℕ). arcs_from s at (n - 0)) e ∙ ap (arcs_from s start) f

-- ---- the walk

-- fewer rules come before a lower one
pub fine_less : {N : Net} {ps ts Q : List ℕ} {a : Arc} (d d' : ℕ) → d' ≤ d → Fine N ps ts Q d a → Fine N ps ts Q d' a
fine_less d d' l f = record { fed = λ g. f.fed (omega arith); unchanged = λ g. f.unchanged (omega arith); unraised = λ g. f.unraised (omega arith); held = λ g. f.held (omega arith) }

pub settled_less : (plan : List ℕ) (hp : Header) (slice : List ℕ) (hs : Header) (Q : List ℕ) (a : Arc) (d d' : ℕ) → d' ≤ d → Settled plan hp slice hs Q d a → Settled plan hp slice hs Q d' a
settled_less plan hp slice hs Q a d d' l s = record { fine = fine_less d d' l s.fine; out = s.out }

module _ (plan : List ℕ) (hp : Header) (slice : List ℕ) (hs : Header) (Q : List ℕ) where
  module _ (j k differs d : ℕ) (x : Walked plan hp slice hs Q j k differs d) where
    -- all arcs are gone through
    pub walked_end : hp.arcs ≤ j → k ≡ hs.arcs → quiet_of differs ≡ true → Passed plan hp slice hs Q d
    walked_end l e q = record {
      same = x.same (omega arith) q
          (row_end slice hs.arcstart hs.arcs k (omega arith)
          ∙ sym (ap (restrict (slice_from slice hs).place_origins (slice_from slice hs).transition_origins) (row_end plan hp.arcstart hp.arcs j l) ∙ restrict-none _ _));
      fine = λ i h. x.fine i (omega (arith, x.within));
    }

    -- more is in doubt
    pub walked_doubt : (d' : ℕ) → d' ≤ d → Walked plan hp slice hs Q j k differs d'
    walked_doubt d' l = record { within = x.within; behind = x.behind; fine = λ i h. fine_less d d' l (x.fine i h); same = x.same }

    -- one more, left out
    pub walked_past : j < hp.arcs → Settled plan hp slice hs Q d (arc_at plan (hp.arcstart + 8 * j)) → Walked plan hp slice hs Q (j + 1) k differs d
    walked_past l s = record {
      within = omega arith;
      behind = omega (arith, x.behind);
      fine = below_more _ _ x.fine s.fine;
      same = λ m q e. x.same m q (e ∙ sym (ap (restrict (slice_from slice hs).place_origins (slice_from slice hs).transition_origins) (row_cons plan hp.arcstart hp.arcs j l) ∙ restrict-out _ _ _ _ s.out));
    }

    -- one more, that is due and stands there
    pub walked_on : j < hp.arcs → k < hs.arcs → FineIn plan hp slice hs Q d (arc_at plan (hp.arcstart + 8 * j))
        → (among (arc_at plan (hp.arcstart + 8 * j)).place (slice_from slice hs).place_origins && among (arc_at plan (hp.arcstart + 8 * j)).transition (slice_from slice hs).transition_origins) ≡ true
        → (differs' : ℕ) → (quiet_of differs' ≡ true → quiet_of differs ≡ true) → (quiet_of differs' ≡ true → arc_at slice (hs.arcstart + 8 * k) ≡ renumber (slice_from slice hs).place_origins (slice_from slice hs).transition_origins (arc_at plan (hp.arcstart + 8 * j)))
        → Walked plan hp slice hs Q (j + 1) (k + 1) differs' d
    walked_on l h f b n zero here = record {
      within = omega arith;
      behind = omega (arith, x.behind);
      fine = below_more _ _ x.fine f;
      same = λ m q e. x.same (omega arith) (zero q)
          (row_cons slice hs.arcstart hs.arcs k h
          ∙ ap (λ (a : Arc). a ∷ arcs_from slice (hs.arcstart + 8 * (k + 1)) (hs.arcs - (k + 1))) (here q)
          ∙ ap (λ (m : List Arc). renumber (slice_from slice hs).place_origins (slice_from slice hs).transition_origins (arc_at plan (hp.arcstart + 8 * j)) ∷ m) e
          ∙ sym (ap (restrict (slice_from slice hs).place_origins (slice_from slice hs).transition_origins) (row_cons plan hp.arcstart hp.arcs j l) ∙ restrict-in _ _ _ _ b));
    }

    -- one more, where the slice has no arc left
    walked_over : j < hp.arcs → hs.arcs ≤ k → FineIn plan hp slice hs Q d (arc_at plan (hp.arcstart + 8 * j))
        → (differs' : ℕ) → Walked plan hp slice hs Q (j + 1) (k + 1) differs' d
    walked_over l h f n = record {
      within = omega arith;
      behind = omega (arith, x.behind);
      fine = below_more _ _ x.fine f;
      same = λ m q e. absurd (omega arith);
    }

-- ---- one arc of the plan

-- direction and zero byte as one number
zero_byte : (w b : ℕ) → w / 65536 % 65536 ≡ b → b < 256 → spare w ≡ 0
zero_byte w b e l = let one : w / 65536 / 256 ≡ w / 16777216 = div-div-eq-div-mul w 65536 256 in low (w / 65536) (w / 16777216) b one e l
  where
    low : (a c b : ℕ) → a / 256 ≡ c → a % 65536 ≡ b → b < 256 → c % 256 ≡ 0
    low a c b e f l = omega arith

-- the zero byte of an arc
pub plain_word : (s : List ℕ) (h : Header) → Sound s h → (k : ℕ) → k < h.arcs → (v : ℕ) → ArcWord s (h.arcstart + 8 * k) v → spare v ≡ 0
plain_word s h so k l v its =
    let g = range_at h.places h.transitions s h.arcstart h.arcs k so.arcs l in
    zero_byte v (byte_at s (h.arcstart + 8 * k + 2)) (omega (arith, its.middle, so.zeros k l)) (omega (arith, g.direction))

-- an arc of the slice has small numbers
slice_word : (slice : List ℕ) (hs : Header) → Sound slice hs → (k : ℕ) → k < hs.arcs → (own : ℕ) → ArcWord slice (hs.arcstart + 8 * k) own → ArcGood 1024 1024 (arc_of own)
slice_word slice hs so k l own its =
    let g = subst (ArcGood hs.places hs.transitions) (sym its.arc) (range_at hs.places hs.transitions slice hs.arcstart hs.arcs k so.arcs l) in
    record { direction = g.direction; place = omega (arith, g.place, so.placed.places); transition = omega (arith, g.transition, so.placed.transitions); weight = g.weight }

module _ (plan : List ℕ) (hp : Header) (slice : List ℕ) (hs : Header) (Q places transitions : List ℕ) (r : Ready plan hp slice hs Q places transitions) (j : ℕ) (l : j < hp.arcs) (w : ℕ) (is : ArcWord plan (hp.arcstart + 8 * j) w) (wl : w < 18446744073709551616) where
  pub good_word : ArcGood hp.places hp.transitions (arc_of w)
  good_word = subst (ArcGood hp.places hp.transitions) (sym is.arc) (range_at hp.places hp.transitions plan hp.arcstart hp.arcs j r.planned.arcs l)

  pub word-ends : (z : ℕ) → z ≡ joined_of w places transitions → Ends (net_from plan hp) (slice_from slice hs).place_origins (slice_from slice hs).transition_origins (watched plan hp slice hs Q) w z
  word-ends z e = ends plan hp slice hs Q places transitions r w wl good_word z e

  pub joined-fits : ((arc_of w).place < length places) × ((arc_of w).transition < length transitions) × (joined_of w places transitions < 18446744073709551616)
  joined-fits = (omega (arith, good_word.place, r.places_reached), omega (arith, good_word.transition, r.transitions_reached), sum_below good_word.direction (word-ends _ refl))

  -- its zero byte
  pub plain : spare w ≡ 0
  plain = plain_word plan hp r.planned j l w is

  -- an end is left out
  pub left-out_here : (z : ℕ) → z ≡ joined_of w places transitions → kept_of z ≡ false → (among (arc_at plan (hp.arcstart + 8 * j)).place (slice_from slice hs).place_origins && among (arc_at plan (hp.arcstart + 8 * j)).transition (slice_from slice hs).transition_origins) ≡ false
  left-out_here z sum e = subst (λ (a : Arc). (among a.place (slice_from slice hs).place_origins && among a.transition (slice_from slice hs).transition_origins) ≡ false) is.arc (end_out good_word.direction (word-ends z sum) plain e)

  -- both are kept
  pub kept_here : (z : ℕ) → z ≡ joined_of w places transitions → kept_of z ≡ true → (among (arc_at plan (hp.arcstart + 8 * j)).place (slice_from slice hs).place_origins && among (arc_at plan (hp.arcstart + 8 * j)).transition (slice_from slice hs).transition_origins) ≡ true
  kept_here z sum e = subst (λ (a : Arc). (among a.place (slice_from slice hs).place_origins && among a.transition (slice_from slice hs).transition_origins) ≡ true) is.arc (ends_kept good_word.direction (word-ends z sum) e)

  module _ (k differs d : ℕ) (x : Walked plan hp slice hs Q j k differs d) (z : ℕ) (sum : z ≡ joined_of w places transitions) (even : (odd_of z && ltb 6 d) ≡ false) where
    fine_here : FineIn plan hp slice hs Q d (arc_at plan (hp.arcstart + 8 * j))
    fine_here =
        by_cases (odd_of z)
        (λ o. let low : d ≤ 6 = ltb-false 6 d (sym (ap (λ (b : Bool). b && ltb 6 d) o) ∙ even) in
        record { fed = λ g. absurd (omega arith); unchanged = λ g. absurd (omega arith); unraised = λ g. absurd (omega arith); held = λ g. absurd (omega arith) })
        (λ o. subst (FineIn plan hp slice hs Q d) is.arc (arc-fine good_word.direction d (word-ends z sum) o))

    pub walked_next : (own : ℕ) → ArcWord slice (hs.arcstart + 8 * k) own → (n : ℕ) → n ≡ bit_or differs (counted (kept_of z) (bit_xor z own)) → (m : ℕ) → m ≡ k + counted (kept_of z) 1 → Walked plan hp slice hs Q (j + 1) m n d
    walked_next own its n en m em = by_cases (kept_of z) kept left
      where
        left : kept_of z ≡ false → Walked plan hp slice hs Q (j + 1) m n d
        left e =
            let a : n ≡ differs = en ∙ ap (λ (b : Bool). bit_or differs (counted b (bit_xor z own))) e ∙ or_zero_r differs in
            let b : m ≡ k = em ∙ ap (λ (b : Bool). k + counted b 1) e ∙ (let c : k + 0 ≡ k = omega arith in c) in
            rw (a, b) (walked_past plan hp slice hs Q j k differs d x l (record {
              fine = fine_here;
              out = left-out_here z sum e;
            }))

        kept : kept_of z ≡ true → Walked plan hp slice hs Q (j + 1) m n d
        kept e =
            let a : n ≡ bit_or differs (bit_xor z own) = en ∙ ap (λ (b : Bool). bit_or differs (counted b (bit_xor z own))) e in
            let b : m ≡ k + 1 = em ∙ ap (λ (b : Bool). k + counted b 1) e in
            let calm : quiet_of n ≡ true → Quiet (bit_or differs (bit_xor z own)) = λ q. subst Quiet a (quiet_is n q) in
            rw b (by_cases (ltb k hs.arcs)
            (λ h. walked_on plan hp slice hs Q j k differs d x l (ltb-true _ _ h) fine_here
            (kept_here z sum e)
            n (λ q. is_quiet differs (quiet_left differs _ (calm q)))
            (λ q. sym its.arc
            ∙ due_arc good_word.direction (word-ends z sum) e own (slice_word slice hs r.sliced k (ltb-true _ _ h) own its) (like z own (quiet_right differs _ (calm q)))
            ∙ ap (renumber (slice_from slice hs).place_origins (slice_from slice hs).transition_origins) is.arc))
            (λ h. walked_over plan hp slice hs Q j k differs d x l (ltb-false _ _ h) fine_here n))
