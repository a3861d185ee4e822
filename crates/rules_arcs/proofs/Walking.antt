-- The plan's run of arcs against the slice's, arc by arc.
use Prim.Native.Nat.{ℕ, ◌+◌, ◌-◌, ◌*◌, ◌/◌, ◌%◌, ◌≤◌, ◌<◌}
use mathlib.Core.Bool.{Bool, true, false, not, ◌&&◌}
use mathlib.Core.Path.{◌≡◌, refl, sym, ap, ◌∙◌}
use mathlib.Core.List.{List, [], ◌∷◌}
use native.Mathlib.Omega.{arith}
use lib.Dec.{T, eqb, eqb→eq}
use lib.ListN.{get_or}
use borrow.Author.Tests.{eq-eqb, ne_eqb}
use Rattle.net.specs.Numbers.{among, position}
use Rattle.net.specs.Slice.{renumber, restrict}
use Rattle.net.specs.Checker.{same_arc, same_arcs}
use Rattle.net.specs.declared.Arc.{Arc}
use Rattle.net.proofs.Numbers.{by_order, holds, same_test, and_both, and_left, and_right}
use Rattle.file_words.specs.Word.{byte_at}
use Rattle.file_arcs.specs.Layout.{arc_at, arcs_from}
use Rattle.file.specs.Layout.{slice_from}
use Rattle.file_arcs.specs.Facts.{ArcWord, arc_of}
use Rattle.file_header.specs.declared.Header.{Header}
use Rattle.rules_tables.proofs.Rows.{row_cons, row_end, restrict-in, restrict-out}
use Rattle.numbering.proofs.Lookup.{left_out, is_kept, own-number}
use Rattle.rules_arcs.specs.Links.{Against, Step, Walk, numbered, renumbered, arcs_left, kept}

left-cons : (slice : List ℕ) (hs : Header) (k upto : ℕ) → k < upto → arcs_left slice hs k upto ≡ arc_at slice (hs.arcstart + 8 * k) ∷ arcs_left slice hs (k + 1) upto
left-cons slice hs k upto l = row_cons slice hs.arcstart upto k l

left-none : (slice : List ℕ) (hs : Header) (k upto : ℕ) → upto ≤ k → arcs_left slice hs k upto ≡ []
left-none slice hs k upto l = row_end slice hs.arcstart upto k l

kept_out : (ps ts : List ℕ) (a : Arc) (rest : List Arc) → among a.place ps ≡ false → restrict ps ts (a ∷ rest) ≡ restrict ps ts rest
kept_out ps ts a rest e = restrict-out ps ts a rest (rw e)

kept_in : (ps ts : List ℕ) (a : Arc) (rest : List Arc) → among a.place ps ≡ true → among a.transition ts ≡ true → restrict ps ts (a ∷ rest) ≡ renumber ps ts a ∷ restrict ps ts rest
kept_in ps ts a rest e f = restrict-in ps ts a rest (rw (e, f))

short : (b : Arc) (m : List Arc) → same_arcs [] (b ∷ m) ≡ false
unfolding same_arcs
short b m = refl

long : (a : Arc) (l : List Arc) → same_arcs (a ∷ l) [] ≡ false
unfolding same_arcs
long a l = refl

both_end : same_arcs [] [] ≡ true
unfolding same_arcs
both_end = refl

heads : (a b : Arc) (l m : List Arc) (v : Bool) → same_arc a b ≡ v → same_arcs (a ∷ l) (b ∷ m) ≡ (v && same_arcs l m)
unfolding same_arcs
heads a b l m v e = ap (λ (w : Bool). w && same_arcs l m) e

as_numbered : (ps ts : List ℕ) (a : Arc) (t p : ℕ) → position a.transition ts ≡ t → position a.place ps ≡ p → numbered a t p ≡ renumber ps ts a
unfolding renumber
as_numbered ps ts a t p e f = ap (λ (t : ℕ). numbered a t p) (sym e) ∙ ap (λ (p : ℕ). numbered a (position a.transition ts) p) (sym f)

-- ---- one comparison of two words

equal : (m n : ℕ) → m ≡ n → T (eqb m n)
equal m n e = holds _ (eq-eqb m n e)

-- a word by its four numbers of 16 bits
module _ (v t m p q : ℕ) (e : v ≡ t + m * 65536 + 4294967296 * p + q * 281474976710656) (tl : t < 65536) (ml : m < 65536) (pl : p < 65536) where
  first_part : v % 65536 ≡ t
  first_part = omega arith

  second_part : v / 65536 % 65536 ≡ m
  second_part = omega arith

  third_part : v / 4294967296 % 65536 ≡ p
  third_part = omega arith

  fourth_part : v / 281474976710656 ≡ q
  fourth_part = omega arith

by_parts : (v : ℕ) → v ≡ v % 65536 + v / 65536 % 65536 * 65536 + 4294967296 * (v / 4294967296 % 65536) + v / 281474976710656 * 281474976710656
by_parts v = omega arith

low_part : (n : ℕ) → n % 65536 < 65536
low_part n = omega arith

-- the words of two arcs with zero bytes 0: equal exactly where the four fields are
module _ (plan : List ℕ) (at w : ℕ) (is : ArcWord plan at w) (zero : byte_at plan (at + 3) ≡ 0) (slice : List ℕ) (there v : ℕ) (its : ArcWord slice there v) (own-zero : byte_at slice (there + 3) ≡ 0) (t p : ℕ) (tl : t < 65536) (pl : p < 65536) where
  middle : w / 65536 % 65536 ≡ (arc_of w).direction
  middle = is.middle ∙ (let e : byte_at plan (at + 2) + 256 * byte_at plan (at + 3) ≡ byte_at plan (at + 2) = omega (arith, zero) in e) ∙ sym (ap (λ (a : Arc). a.direction) is.arc)

  own-middle : v / 65536 % 65536 ≡ (arc_of v).direction
  own-middle = its.middle ∙ (let e : byte_at slice (there + 2) + 256 * byte_at slice (there + 3) ≡ byte_at slice (there + 2) = omega (arith, own-zero) in e) ∙ sym (ap (λ (a : Arc). a.direction) its.arc)

  fields : T (eqb v (renumbered w t p)) → T (same_arc (arc_of v) (numbered (arc_of w) t p))
  unfolding same_arc
  fields h =
      let m = w / 65536 % 65536 in
      let q = w / 281474976710656 in
      let e = eqb→eq v (renumbered w t p) h in
      let ml = low_part (w / 65536) in
      let direction : (arc_of v).direction ≡ (arc_of w).direction = sym own-middle ∙ second_part v t m p q e tl ml pl ∙ middle in
      let last = eqb (arc_of v).weight (arc_of w).weight in
      let third = eqb (arc_of v).place p in
      let second = eqb (arc_of v).direction (arc_of w).direction in
      and_both (eqb (arc_of v).transition t) (second && (third && last)) (equal _ _ (first_part v t m p q e tl ml pl))
      (and_both second (third && last) (equal _ _ direction)
      (and_both third last (equal _ _ (third_part v t m p q e tl ml pl)) (equal _ _ (fourth_part v t m p q e tl ml pl))))

  word_of : T (same_arc (arc_of v) (numbered (arc_of w) t p)) → T (eqb v (renumbered w t p))
  unfolding same_arc
  word_of h =
      let last = eqb (arc_of v).weight (arc_of w).weight in
      let third = eqb (arc_of v).place p in
      let second = eqb (arc_of v).direction (arc_of w).direction in
      let first = eqb (arc_of v).transition t in
      let after = and_right first (second && (third && last)) h in
      let ends = and_right second (third && last) after in
      let a = eqb→eq (arc_of v).transition t (and_left first (second && (third && last)) h) in
      let b : v / 65536 % 65536 ≡ w / 65536 % 65536 = own-middle ∙ eqb→eq (arc_of v).direction (arc_of w).direction (and_left second (third && last) after) ∙ sym middle in
      let d = eqb→eq (arc_of v).place p (and_left third last ends) in
      let f = eqb→eq (arc_of v).weight (arc_of w).weight (and_right third last ends) in
      equal v (renumbered w t p) (by_parts v
      ∙ ap (λ (x : ℕ). x + v / 65536 % 65536 * 65536 + 4294967296 * (v / 4294967296 % 65536) + v / 281474976710656 * 281474976710656) a
      ∙ ap (λ (x : ℕ). t + x * 65536 + 4294967296 * (v / 4294967296 % 65536) + v / 281474976710656 * 281474976710656) b
      ∙ ap (λ (x : ℕ). t + w / 65536 % 65536 * 65536 + 4294967296 * x + v / 281474976710656 * 281474976710656) d
      ∙ ap (λ (x : ℕ). t + w / 65536 % 65536 * 65536 + 4294967296 * p + x * 281474976710656) f)

  pub one_word : eqb v (renumbered w t p) ≡ same_arc (arc_at slice there) (numbered (arc_at plan at) t p)
  one_word =
      same_test _ _ fields word_of
      ∙ ap (λ (b : Arc). same_arc b (numbered (arc_of w) t p)) its.arc
      ∙ ap (λ (a : Arc). same_arc (arc_at slice there) (numbered a t p)) is.arc

-- n is what the table has for the place of the plan's arc at `at`
module _ (plan : List ℕ) (at : ℕ) (slice : List ℕ) (hs : Header) (k upto : ℕ) (ownp : List ℕ) (own : ℕ) (w : Walk plan at slice hs ownp own) (g : Against slice hs k upto ownp) (n : ℕ) (e : n ≡ get_or ownp (arc_at plan at).place 0) where
  pub step_out : n ≡ 0 → Step (arc_at plan at) slice hs k upto k
  step_out z = record {
    least = omega arith;
    differs = λ l rest. absurd (omega (arith, g.rising));
    agrees = λ l rest. ap (same_arcs (arcs_left slice hs k upto)) (kept_out (slice_from slice hs).place_origins (slice_from slice hs).transition_origins (arc_at plan at) rest
        (left_out (slice_from slice hs).place_origins ownp g.places (arc_at plan at).place w.reached (sym e ∙ z)));
  }

  module _ (o : n ≡ 0 → ⊥) where
    some : get_or ownp (arc_at plan at).place 0 ≡ 0 → ⊥
    some z = o (e ∙ z)

    next : (rest : List Arc) → kept slice hs (arc_at plan at ∷ rest) ≡ renumber (slice_from slice hs).place_origins (slice_from slice hs).transition_origins (arc_at plan at) ∷ kept slice hs rest
    next rest =
        kept_in (slice_from slice hs).place_origins (slice_from slice hs).transition_origins (arc_at plan at) rest
        (is_kept (slice_from slice hs).place_origins ownp g.places (arc_at plan at).place w.reached some) w.held

    is_due : numbered (arc_at plan at) own (n - 1) ≡ renumber (slice_from slice hs).place_origins (slice_from slice hs).transition_origins (arc_at plan at)
    is_due =
        as_numbered (slice_from slice hs).place_origins (slice_from slice hs).transition_origins (arc_at plan at) own (n - 1) w.number
        (omega (arith, e, own-number (slice_from slice hs).place_origins ownp g.places (arc_at plan at).place w.reached some))

    -- the slice has no arc left
    pub step_end : upto ≤ k → Step (arc_at plan at) slice hs k upto (upto + 1)
    step_end l = record {
      least = omega (arith, g.rising);
      differs = λ d rest. rw (left-none slice hs k upto l, next rest) (short _ _);
      agrees = λ d rest. absurd (omega arith);
    }

    -- or its next arc is compared
    module _ (l : k < upto) (v : Bool) (s : v ≡ same_arc (arc_at slice (hs.arcstart + 8 * k)) (numbered (arc_at plan at) own (n - 1))) where
      compared : (rest : List Arc) → same_arcs (arcs_left slice hs k upto) (kept slice hs (arc_at plan at ∷ rest)) ≡ (v && same_arcs (arcs_left slice hs (k + 1) upto) (kept slice hs rest))
      compared rest =
          rw (left-cons slice hs k upto l, next rest)
          (heads _ _ _ _ v (sym (s ∙ ap (same_arc (arc_at slice (hs.arcstart + 8 * k))) is_due)))

      pub step_same : v ≡ true → Step (arc_at plan at) slice hs k upto (k + 1)
      step_same z = record {
        least = omega arith;
        differs = λ h rest. absurd (omega arith);
        agrees = λ h rest. compared rest ∙ ap (λ (v : Bool). v && same_arcs (arcs_left slice hs (k + 1) upto) (kept slice hs rest)) z;
      }

      pub step_other : v ≡ false → Step (arc_at plan at) slice hs k upto (upto + 1)
      step_other z = record {
        least = omega arith;
        differs = λ h rest. compared rest ∙ ap (λ (v : Bool). v && same_arcs (arcs_left slice hs (k + 1) upto) (kept slice hs rest)) z;
        agrees = λ h rest. absurd (omega arith);
      }

-- ---- the whole run

-- the runs agree exactly where what is left of them does
pub record Walked (plan : List ℕ) (start from to : ℕ) (slice : List ℕ) (hs : Header) (first upto j k : ℕ) : Type 0 where
  pub rising : k ≤ upto
  pub same : same_arcs (arcs_left slice hs first upto) (kept slice hs (arcs_from plan (start + 8 * from) (to - from))) ≡ same_arcs (arcs_left slice hs k upto) (kept slice hs (arcs_from plan (start + 8 * j) (to - j)))

module _ (plan : List ℕ) (start from to : ℕ) (slice : List ℕ) (hs : Header) (first upto j k : ℕ) (x : Walked plan start from to slice hs first upto j k) where
  cons : j < to → arcs_from plan (start + 8 * j) (to - j) ≡ arc_at plan (start + 8 * j) ∷ arcs_from plan (start + 8 * (j + 1)) (to - (j + 1))
  cons l = row_cons plan start to j l

  module _ (r : ℕ) (l : j < to) (s : Step (arc_at plan (start + 8 * j)) slice hs k upto r) where
    pub walked_next : r ≤ upto → Walked plan start from to slice hs first upto (j + 1) r
    walked_next d = record {
      rising = d;
      same = x.same ∙ ap (λ (m : List Arc). same_arcs (arcs_left slice hs k upto) (kept slice hs m)) (cons l) ∙ s.agrees d (arcs_from plan (start + 8 * (j + 1)) (to - (j + 1)));
    }

    pub walked_differs : upto < r → true ≡ not (same_arcs (arcs_left slice hs first upto) (kept slice hs (arcs_from plan (start + 8 * from) (to - from))))
    walked_differs d = sym (ap not (x.same ∙ ap (λ (m : List Arc). same_arcs (arcs_left slice hs k upto) (kept slice hs m)) (cons l) ∙ s.differs d (arcs_from plan (start + 8 * (j + 1)) (to - (j + 1)))))

  end : to ≤ j → kept slice hs (arcs_from plan (start + 8 * j) (to - j)) ≡ []
  unfolding restrict
  end l = rw (row_end plan start to j l)

  left_over : same_arcs (arcs_left slice hs k upto) [] ≡ eqb k upto
  left_over =
      by_order k upto
      (λ d. rw (left-cons slice hs k upto d, ne_eqb k upto (λ z. omega arith)) (long _ _))
      (λ d. rw (left-none slice hs k upto (omega arith), eq-eqb k upto d) both_end)
      (λ d. absurd (omega (arith, x.rising)))

  pub walked_end : to ≤ j → not (eqb k upto) ≡ not (same_arcs (arcs_left slice hs first upto) (kept slice hs (arcs_from plan (start + 8 * from) (to - from))))
  walked_end l = sym (ap not (x.same ∙ ap (same_arcs (arcs_left slice hs k upto)) (end l) ∙ left_over))
