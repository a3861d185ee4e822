-- A slice file whose markings are written over is the slice file of the net that starts there.
use Rattle.std.specs.Prelude.{Result}
use Prim.Native.Nat.{ℕ, zero, suc, ◌+◌, ◌-◌, ◌*◌, ◌/◌, ◌%◌, ◌≤◌, ◌<◌}
use mathlib.Core.Bool.{Bool, true, false}
use mathlib.Core.List.{List, [], ◌∷◌, ◌++◌, append_assoc}
use mathlib.Core.Path.{◌≡◌, refl, sym, ap, ◌∙◌}
use native.Mathlib.Numerals.{add-one}
use native.Mathlib.Omega.{arith}
use lib.Dec.{eqb, ltb}
use lib.ListN.{length, get_or, drop, length-append}
use lib.Seq.{sets, drop-append_seam}
use borrow.Author.Tests.{eq-eqb, ne_eqb}
use Rattle.net.specs.Numbers.{selected}
use Rattle.net.specs.Net.{Net, Marking}
use Rattle.net.specs.Slice.{Slice, restrict, on_kept, keeping}
use Rattle.net.proofs.Markings.{below_at}
use Rattle.file_header.specs.Layout.{pick, places_length}
use Rattle.file_header.specs.declared.Header.{Header}
use Rattle.file.specs.Layout.{net_from}
use Rattle.file_words.specs.Word.{bytes32}
use Rattle.file_words.proofs.Bytes.{length-32}
use Rattle.file_writing.specs.Writing.{place_bytes, places_bytes, arcs_bytes, origins_bytes, trailer_bytes, slice_body, slice_bytes}
use Rattle.file_writing.proofs.Bytes.{length-places}
use Rattle.file_words.specs.Refusal.{refuse}
use Rattle.promise.specs.Calls.{CutAnswer, cut_answer, written}
use Rattle.promise.specs.Starts.{starting_at}
use Rattle.tables.proofs.Sets.{sets_first, sets_after}
use Rattle.slice_parts.proofs.Steps.{places_same}
use Rattle.sets.specs.Member.{bit, member}
use Rattle.sets.proofs.Bits.{bit-zero}
use Rattle.sets.specs.declared.KeptSets.{KeptSets}
use Rattle.slice.specs.Kept.{cut_numbers, kept_slice, room_refusal, Answers}
use Rattle.slice.specs.declared.Written.{Written}
use Rattle.refusals.specs.declared.Refusal.{Refusal}
use Rattle.starting.specs.Cuts.{given, passed_bytes, NoneKept}

-- ---- a place in either edition

pub least_place : (b : Bool) → 4 ≤ pick b 8 4
least_place true = omega arith
least_place false = omega arith

module _ (e tokens most : ℕ) where
  pub place-capped : e ≡ 2 → bytes32 tokens ++ bytes32 most ≡ place_bytes (eqb e 2) tokens most
  place-capped d = ap (λ (b : Bool). place_bytes b tokens most) (sym (eq-eqb e 2 d))

  pub place-plain : (e ≡ 2 → ⊥) → bytes32 tokens ≡ place_bytes (eqb e 2) tokens most
  place-plain d = ap (λ (b : Bool). place_bytes b tokens most) (sym (ne_eqb e 2 d))

pub given_yes : (b : Bool) (l : List ℕ) → b ≡ true → l ≡ given b l
given_yes b l e = ap (λ (x : Bool). given x l) (sym e)

-- a word that is 0 has no member
pub none_kept : (words : List ℕ) (p q : ℕ) → get_or words (p / 64) 0 ≡ 0 → q ≤ (p / 64 + 1) * 64 → NoneKept words p q
unfolding member
none_kept words p q e l = record {
  at = λ k a b.
      let i : k / 64 ≡ p / 64 = omega (arith, a, b, l) in
      ap (λ (j : ℕ). bit (get_or words j 0) (k % 64)) i ∙ ap (λ (w : ℕ). bit w (k % 64)) e ∙ bit-zero (k % 64);
}

-- ---- the places that pass a test are those of the list of all that do

module _ (e : ℕ) (M C : ℕ → ℕ) where
  abbrev listed : List ℕ → List ℕ
  listed ps = places_bytes e (λ i. M (get_or ps i 0)) (λ i. C (get_or ps i 0)) 0 (length ps)

  shifted : (m c : ℕ → ℕ) (a n : ℕ) → places_bytes e m c (suc a) n ≡ places_bytes e (λ i. m (suc i)) (λ i. c (suc i)) a n
  unfolding places_bytes
  shifted m c a zero = refl
  shifted m c a (suc n) = ap (λ (l : List ℕ). place_bytes (eqb e 2) (m (suc a)) (c (suc a)) ++ l) (shifted m c (suc a) n)

  module _ (test : ℕ → Bool) where
    pub passed_listed : (p n : ℕ) → passed_bytes e M C test p n ≡ listed (selected test p n)
    unfolding passed_bytes places_bytes selected
    passed_listed p zero = refl
    passed_listed p (suc n) = by (test p) (selected test (suc p) n) (passed_listed (suc p) n)
      where
        by : (b : Bool) (ps : List ℕ) → passed_bytes e M C test (suc p) n ≡ listed ps
            → given b (place_bytes (eqb e 2) (M p) (C p)) ++ passed_bytes e M C test (suc p) n ≡ listed (elim b [ true ↦ p ∷ ps | false ↦ ps ])
        by true ps h = ap (λ (l : List ℕ). place_bytes (eqb e 2) (M p) (C p) ++ l) (h ∙ sym (shifted (λ i. M (get_or (p ∷ ps) i 0)) (λ i. C (get_or (p ∷ ps) i 0)) 0 (length ps)))
        by false ps h = h

    -- one of n places, of which those from p on are left
    module _ (n : ℕ) where
      abbrev pub left : ℕ → List ℕ
      left p = passed_bytes e M C test p (n - p)

      pub left-next : (p : ℕ) → p < n → left p ≡ given (test p) (place_bytes (eqb e 2) (M p) (C p)) ++ left (p + 1)
      unfolding passed_bytes
      left-next p l = let z : n - p ≡ suc (n - (p + 1)) = omega arith in rw (z, add-one p)

      -- those that pass no test leave nothing
      pub left-past : (d p : ℕ) → p + d ≤ n → ((k : ℕ) → p ≤ k → k < p + d → test k ≡ false) → left p ≡ left (p + d)
      left-past zero p l f = let z : p ≡ p + 0 = omega arith in ap left z
      left-past (suc d) p l f =
          let z : p + 1 + d ≡ p + suc d = omega arith in
          left-next p (omega arith) ∙ ap (λ (b : Bool). given b (place_bytes (eqb e 2) (M p) (C p)) ++ left (p + 1)) (f p (omega arith) (omega arith))
          ∙ left-past d (p + 1) (omega arith) (λ k a b. f k (omega arith) (omega arith)) ∙ ap left z

      pub left-none : (p : ℕ) → n ≤ p → left p ≡ []
      unfolding passed_bytes
      left-none p l = let z : n - p ≡ 0 = omega arith in rw z

-- ---- the file of a slice, and the same with other markings

module _ (e : ℕ) (M : Marking) (N : Net) (ps ts : List ℕ) where
  abbrev own : Slice
  own = keeping N ps ts

  abbrev moved : Slice
  moved = keeping (starting_at M N) ps ts

  abbrev places : Marking → List ℕ
  places m = places_bytes e (on_kept ps m) (on_kept ps N.cap) 0 (length ps)

  abbrev body : ℕ
  body = places_length e (length ps) + 8 * length (restrict ps ts N.arcs) + 2 * length ps + 2 * length ts

  abbrev rest : List ℕ
  rest = arcs_bytes (restrict ps ts N.arcs) ++ (origins_bytes ps ++ (origins_bytes ts ++ trailer_bytes 1 e body (length ps) (length ts) (length (restrict ps ts N.arcs))))

  own-file : slice_bytes e own ≡ places N.marking ++ rest
  unfolding slice_bytes slice_body keeping
  own-file = simp append_assoc

  moved-file : slice_bytes e moved ≡ places M ++ rest
  unfolding slice_bytes slice_body keeping
  moved-file = simp append_assoc

  places_long : (m : Marking) → length (places m) ≡ places_length e (length ps)
  places_long m = length-places e (on_kept ps m) (on_kept ps N.cap) 0 (length ps)

  file_long : length (slice_bytes e own) ≡ length (slice_bytes e moved)
  file_long =
      omega (arith, ap length own-file, ap length moved-file, length-append (places N.marking) rest, length-append (places M) rest, places_long M, places_long N.marking)

  room_same : (n : ℕ) → room_refusal e n own ≡ room_refusal e n moved
  room_same n = ap (λ (k : ℕ). refuse (ltb n k) 13 0) file_long

  count_same : (k n : ℕ) → cut_answer k n own ≡ cut_answer k n moved
  unfolding keeping
  count_same zero n = refl
  count_same (suc k) n = refl

  answer-same : (n : ℕ) → cut_answer (room_refusal e n own) (length (slice_bytes e own)) own ≡ cut_answer (room_refusal e n moved) (length (slice_bytes e moved)) moved
  answer-same n =
      count_same (room_refusal e n own) (length (slice_bytes e own))
      ∙ ap (λ (k : ℕ). cut_answer k (length (slice_bytes e own)) moved) (room_same n)
      ∙ ap (λ (l : ℕ). cut_answer (room_refusal e n moved) l moved) file_long

  module _ {entry b : List ℕ} {r : Result Written Refusal} (a : Answers e own entry b r) where
    abbrev k : ℕ
    k = room_refusal e (length entry) own

    told : (cut_numbers r).refused ≡ (cut_answer k (length (slice_bytes e own)) own).refused
    told = ap (λ (x : CutAnswer). x.refused) a.answer

    stays : (m n : ℕ) → (cut_answer m n own).refused ≡ true → (f g l : List ℕ) → written m f l ≡ written m g l
    stays zero n t f g l = let z : ◌≡◌ {A = ℕ} 0 1 = cc in absurd (omega (arith, z))
    stays (suc m) n t f g l = refl

    none : (m n : ℕ) → (cut_answer m n own).refused ≡ false → m ≡ 0
    none zero n t = refl
    none (suc m) n t = let z : ◌≡◌ {A = ℕ} 0 1 = cc in absurd (omega (arith, z))

    -- refused: nothing is written
    pub refused_too : (cut_numbers r).refused ≡ true → Answers e moved entry b r
    refused_too t = record {
      answer = a.answer ∙ answer-same (length entry);
      buffer = a.buffer ∙ stays k (length (slice_bytes e own)) (sym told ∙ t) (slice_bytes e own) (slice_bytes e moved) entry ∙ ap (λ (m : ℕ). written m (slice_bytes e moved) entry) (room_same (length entry));
    }

    module _ (t : (cut_numbers r).refused ≡ false) where
      no_refusal : k ≡ 0
      no_refusal = none k (length (slice_bytes e own)) (sym told ∙ t)

      abbrev past : List ℕ
      past = drop (length (slice_bytes e own)) entry

      stands : b ≡ places N.marking ++ (rest ++ past)
      stands =
          a.buffer ∙ ap (λ (m : ℕ). written m (slice_bytes e own) entry) no_refusal ∙ ap (λ (l : List ℕ). l ++ past) own-file
          ∙ append_assoc (places N.marking) rest past

      pub room_for : length (places M) ≤ length b
      room_for = omega (arith, ap length stands, length-append (places N.marking) (rest ++ past), places_long M, places_long N.marking)

      seam : drop (length (places M)) b ≡ rest ++ past
      seam =
          let same : length (places M) ≡ length (places N.marking) = omega (arith, places_long M, places_long N.marking) in
          ap (λ (n : ℕ). drop n b) same ∙ ap (drop (length (places N.marking))) stands ∙ drop-append_seam (places N.marking) (rest ++ past)

      -- the markings written over
      pub written_over : {exit : List ℕ} → exit ≡ sets b 0 (places M) → Answers e moved entry exit r
      written_over f = record {
        answer = a.answer ∙ answer-same (length entry);
        buffer =
            f ∙ sets_first (places M) b room_for ∙ ap (λ (l : List ℕ). places M ++ l) seam ∙ sym (append_assoc (places M) rest past)
            ∙ ap (λ (l : List ℕ). l ++ past) (sym moved-file)
            ∙ ap (λ (n : ℕ). slice_bytes e moved ++ drop n entry) file_long
            ∙ ap (λ (m : ℕ). written m (slice_bytes e moved) entry) (sym no_refusal ∙ room_same (length entry));
      }

-- the places of that file, by the test that they pass
pub passed_kept : (e : ℕ) (M : Marking) (N : Net) (test : ℕ → Bool) (n : ℕ) → passed_bytes e M N.cap test 0 n ≡ places_bytes e (on_kept (selected test 0 n) M) (on_kept (selected test 0 n) N.cap) 0 (length (selected test 0 n))
passed_kept e M N test n =
    let ps = selected test 0 n in
    passed_listed e M N.cap test 0 n
    ∙ sym (places_same e (λ i. M (get_or ps i 0)) (on_kept ps M) (λ i. N.cap (get_or ps i 0)) (on_kept ps N.cap) 0 (length ps)
    (λ i l. (below_at (length ps) (λ k. M (get_or ps k 0)) (0 + i) (omega arith), below_at (length ps) (λ k. N.cap (get_or ps k 0)) (0 + i) (omega arith))))

pub as_kept : (s : List ℕ) (h : Header) (kept : KeptSets) {entry exit : List ℕ} {r : Result Written Refusal} → Answers h.edition (kept_slice s h kept) entry exit r
    → Answers h.edition (keeping (net_from s h) (selected (member kept.places) 0 h.places) (selected (member kept.transitions) 0 h.transitions)) entry exit r
unfolding kept_slice
as_kept s h kept a = a

-- two numbers stored one after the other
pub two_stored : (l : List ℕ) (i k : ℕ) {a b : List ℕ} {x y m c : ℕ} → k ≡ i + 4 → a ≡ sets l i (bytes32 x) → b ≡ sets a k (bytes32 y) → x ≡ m → y ≡ c → b ≡ sets l i (bytes32 m ++ bytes32 c)
two_stored l i k {x = x} {y = y} e f g x≡ y≡ = rw (x≡, y≡) at (sets_after (bytes32 x) (bytes32 y) l i k f g (omega (arith, e, length-32 x)))
