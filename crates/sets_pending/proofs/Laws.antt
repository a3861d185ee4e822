-- Laws of lent sets: a member put in, a place kept whose word is marked, and the lowest pending place by the marks.
use mathlib.Core.Path.{◌≡◌, refl, sym, ap, ap₂, ◌∙◌, subst}
use mathlib.Core.Bool.{Bool, true, false, not, ◌&&◌, ◌||◌}
use mathlib.Core.List.{List}
use Prim.Native.Nat.{ℕ, zero, suc, ◌+◌, ◌-◌, ◌*◌, ◌/◌, ◌%◌, ◌^◌, ◌≤◌, ◌<◌}
use native.Mathlib.Omega.{arith}
use native.Mathlib.Decide.{dec_lt}
use lib.Dec.{T, eqb, eqb→eq}
use lib.ListN.{get_or}
use lib.Bits.{bit_or, bit_xor}
use lib.Pow.{shr-shr}
use borrow.Author.Tests.{eq-eqb, eqb-true}
use Rattle.net.proofs.Numbers.{by_or, holds, is_true, is_false, fails, or_left, or_right, and_left, and_right}
use Rattle.sets.specs.Member.{bit, member, count_below, Inserted}
use Rattle.sets.specs.Lowest.{IsLowest}
use Rattle.std.specs.Prelude.{Some, None}
use Rattle.sets.proofs.Bits.{differs, bit-or, bit-xor, bit-pow, bit-zero, bit-suc, bit-low, shifted_one}
use Rattle.sets.proofs.Members.{clears, member-at}
use Rattle.sets_pending.specs.Growing.{MarksBelow, waits, Marked, PlacesKept, LowestPending}
use Rattle.sets_pending.proofs.Counting.{count_less}

-- the code's 1 << i
abbrev one : ℕ → ℕ
one i = 1 * 2 ^ i % 2 ^ 64

bit-one : (i k : ℕ) → i < 64 → bit (one i) k ≡ eqb k i
bit-one i k l = ap (λ (w : ℕ). bit w k) (shifted_one i l) ∙ bit-pow i k

-- ---- a place kept

-- a place kept, or one that was
waits-or : (a n g : Bool) → T ((a || n) && not g) → T (a && not g || n)
waits-or true n g h = or_left (not g) n h
waits-or false true g h = tt
waits-or false false g h = absurd h

module _ (marks p : ℕ) (l : p < 1024) where
  marks_or : (i : ℕ) → bit (bit_or marks (one (p / 64))) i ≡ bit marks i || eqb i (p / 64)
  marks_or i = bit-or marks (one (p / 64)) i ∙ ap (λ (b : Bool). bit marks i || b) (bit-one (p / 64) i (omega arith))

  pub place_kept : (places places' : List ℕ) → Inserted p places places' → PlacesKept (λ k. eqb k p) marks (bit_or marks (one (p / 64))) places places'
  place_kept places places' x = record {
    kept = x.members;
    long = x.long;
    marked = λ gone m. record {
      words = λ i h. by_or (bit marks i) (eqb i (p / 64)) (subst T (marks_or i) h) (λ u. m.words i u) (λ u. let e = eqb→eq i (p / 64) u in omega arith);
      marked = λ k h. subst T (sym (marks_or (k / 64)))
          (by_or (waits places gone k) (eqb k p) (waits-or (member places k) (eqb k p) (gone k) (subst (λ (b : Bool). T (b && not (gone k))) (x.members k) h))
          (λ u. or_left (bit marks (k / 64)) _ (m.marked k u))
          (λ u. or_right (bit marks (k / 64)) _ (holds _ (eq-eqb (k / 64) (p / 64) (ap (λ (i : ℕ). i / 64) (eqb→eq k p u))))));
    };
  }

-- ---- the marks

pub without_it : (marks i : ℕ) → i < 64 → (k : ℕ) → bit (bit_xor (bit_or marks (one i)) (one i)) k ≡ not (eqb k i) && bit marks k
without_it marks i l k =
    bit-xor (bit_or marks (one i)) (one i) k
    ∙ ap (λ (b : Bool). differs b (bit (one i) k)) (bit-or marks (one i) k)
    ∙ ap (λ (b : Bool). differs (bit marks k || b) b) (bit-one i k l)
    ∙ clears (bit marks k) (eqb k i)

-- n marks, all of them
unfoldable ones : ℕ → ℕ
ones zero = 0
ones (suc n) = 2 * ones n + 1

ones_in : (n k : ℕ) → k < n → bit (ones n) k ≡ true
unfolding ones
ones_in zero k l = absurd (omega arith)
ones_in (suc n) zero l = bit-low (2 * ones n + 1) ∙ eq-eqb ((2 * ones n + 1) % 2) 1 (omega arith)
ones_in (suc n) (suc k) l = bit-suc (2 * ones n + 1) k ∙ ap (λ (w : ℕ). bit w k) (let e : (2 * ones n + 1) / 2 ≡ ones n = omega arith in e) ∙ ones_in n k (omega arith)

ones_out : (n k : ℕ) → n ≤ k → bit (ones n) k ≡ false
unfolding ones
ones_out zero k l = bit-zero k
ones_out (suc n) zero l = absurd (omega arith)
ones_out (suc n) (suc k) l = bit-suc (2 * ones n + 1) k ∙ ap (λ (w : ℕ). bit w k) (let e : (2 * ones n + 1) / 2 ≡ ones n = omega arith in e) ∙ ones_out n k (omega arith)

-- sixteen ones, shifted
bit_shifted : (a i : ℕ) → bit (65535 / 2 ^ a) i ≡ bit 65535 (a + i)
unfolding bit
bit_shifted a i = ap (λ (x : ℕ). eqb (x % 2) 1) (shr-shr 65535 a i)

pub below-marked : (n : ℕ) → n ≤ 1024 → MarksBelow n (65535 / 2 ^ (16 - (n + 63) / 64))
unfolding ones
below-marked n l = record {
  words = λ i h. go i h (dec_lt i 16);
  marked = λ k h. holds _ (bit_shifted (16 - (n + 63) / 64) (k / 64) ∙ ones_in 16 (16 - (n + 63) / 64 + k / 64) (omega arith));
}
  where
    go : (i : ℕ) → T (bit (65535 / 2 ^ (16 - (n + 63) / 64)) i) → Dec (i < 16) → i < 16
    go i h (yes m) = m
    go i h (no m) = absurd (fails _ (bit_shifted (16 - (n + 63) / 64) i ∙ ones_out 16 (16 - (n + 63) / 64 + i) (omega arith)) h)

-- at first every word that can have a place is marked
pub all-marked : (n marks : ℕ) → MarksBelow n marks → (places : List ℕ) (gone : ℕ → Bool) → ((k : ℕ) → T (member places k) → k < n) → Marked places gone marks
all-marked n marks m places gone inside = record {
  words = m.words;
  marked = λ k h. m.marked k (inside k (and_left (member places k) (not (gone k)) h));
}

-- ---- the lowest pending place

not-waits : (a g : Bool) → (T g → T a) → differs a g ≡ a && not g
not-waits true g h = refl
not-waits false true h = absurd (h tt)
not-waits false false h = refl

module _ (places gone : List ℕ) (part : (k : ℕ) → T (member gone k) → T (member places k)) where
  -- a bit of the word that the code looks at
  waits-at : (i z : ℕ) → z < 64 → bit (bit_xor (get_or places i 0) (get_or gone i 0)) z ≡ waits places (member gone) (i * 64 + z)
  waits-at i z l =
      bit-xor (get_or places i 0) (get_or gone i 0) z
      ∙ sym (ap₂ differs (member-at places i z l) (member-at gone i z l))
      ∙ not-waits (member places (i * 64 + z)) (member gone (i * 64 + z)) (part (i * 64 + z))

  module _ (marks : ℕ) (m : Marked places (member gone) marks) where
    unmarked : (k : ℕ) → bit marks (k / 64) ≡ false → waits places (member gone) k ≡ false
    unmarked k e = is_false _ (λ h. fails _ e (m.marked k h))

    module _ (i : ℕ) (first : IsLowest 64 (bit marks) (Some i)) where
      pub first_word : i < 16
      first_word = m.words i (holds _ first.1)

      -- nothing is pending below word i, nor below z in it
      below : (z : ℕ) → z ≤ 64 → ((k : ℕ) → k < z → bit (bit_xor (get_or places i 0) (get_or gone i 0)) k ≡ false) → (k : ℕ) → k < i * 64 + z → waits places (member gone) k ≡ false
      below z l none k h = go (dec_lt k (i * 64))
        where
          go : Dec (k < i * 64) → waits places (member gone) k ≡ false
          go (yes q) = unmarked k (first.2 (k / 64) (omega arith))
          go (no q) =
              let e : i * 64 + (k - i * 64) ≡ k = omega arith in
              subst (λ (x : ℕ). waits places (member gone) x ≡ false) e (sym (waits-at i (k - i * 64) (omega arith)) ∙ none (k - i * 64) (omega arith))

      pub lowest_at : (z : ℕ) → IsLowest 64 (bit (bit_xor (get_or places i 0) (get_or gone i 0))) (Some z) → LowestPending places gone marks (Some (i * 64 + z))
      lowest_at z h = record {
        lowest = (omega (arith, first_word, h.0), sym (waits-at i z h.0) ∙ h.1, below z (omega (arith, h.0)) h.2);
        marked = m;
      }

      module _ (none : IsLowest 64 (bit (bit_xor (get_or places i 0) (get_or gone i 0))) None) (marks' : ℕ) (out : (k : ℕ) → bit marks' k ≡ not (eqb k i) && bit marks k) where
        pub marks_less : Marked places (member gone) marks'
        marks_less = record {
          words = λ j h. m.words j (and_right (not (eqb j i)) (bit marks j) (subst T (out j) h));
          marked = λ k h. subst T (sym (out (k / 64))) (other k h (eqb (k / 64) i) refl);
        }
          where
            other : (k : ℕ) → T (waits places (member gone) k) → (b : Bool) → eqb (k / 64) i ≡ b → T (not b && bit marks (k / 64))
            other k h true e = absurd (let q = eqb-true (k / 64) i e in fails _ (below 64 (omega arith) none k (omega arith)) h)
            other k h false e = m.marked k h

        pub marks_fewer : count_below (bit marks') 64 < count_below (bit marks) 64
        marks_fewer =
            count_less (bit marks') (bit marks) 64 i first.0 (λ k e. is_true _ (and_right (not (eqb k i)) (bit marks k) (holds _ (sym (out k) ∙ e))))
            (out i ∙ ap (λ (b : Bool). not b && bit marks i) (eq-eqb i i refl)) first.1
