-- Refusals 9 and 10, place by place.
use Prim.Native.Nat.{ℕ, zero, suc, ◌+◌, ◌-◌, ◌*◌, ◌/◌, ◌%◌, ◌≤◌, ◌<◌}
use mathlib.Core.Path.{◌≡◌, refl, sym, ap, ◌∙◌}
use mathlib.Core.Bool.{true, false, ◌||◌}
use mathlib.Core.List.{List, [], ◌∷◌, ◌++◌}
use native.Mathlib.Omega.{arith}
use native.Mathlib.Numerals.{add-one}
use lib.Dec.{ltb, leb}
use lib.ListN.{length, get_or, take, drop, set}
use lib.Seq.{drop-cons, take-suc-set}
use borrow.Author.Tests.{eq-eqb, ne_eqb}
use Rattle.file_words.specs.Word.{le16}
use Rattle.file.specs.Layout.{words_from}
use Rattle.file_words.specs.Refusal.{refuse}
use Rattle.file.specs.Criterion.{places_refusal, criterion_refusal, criterion_of, criterion_bytes_refusal}

-- ---- the loops

list_step : (P least : ℕ) (q : List ℕ) (i : ℕ) → i < length q
    → places_refusal P least (drop i q) ≡ refuse (leb P (get_or q i 0) || ltb (get_or q i 0) least) 10 (places_refusal P (get_or q i 0 + 1) (drop (i + 1) q))
unfolding places_refusal
list_step P least q i h = rw (add-one i, drop-cons q i 0)

module _ (P least : ℕ) (q : List ℕ) (i : ℕ) (inside : i < length q) (x : ℕ) (is : x ≡ get_or q i 0) where
  pub list_10 : (leb P x || ltb x least) ≡ true → places_refusal P least (drop i q) ≡ 10
  list_10 e = list_step P least q i inside ∙ rw (← is, e)

  pub list_on : (leb P x || ltb x least) ≡ false → places_refusal P least (drop i q) ≡ places_refusal P (x + 1) (drop (i + 1) q)
  list_on e = list_step P least q i inside ∙ rw (← is, e)

pub list_end : (P least : ℕ) (q : List ℕ) (i : ℕ) → length q ≤ i → places_refusal P least (drop i q) ≡ 0
unfolding places_refusal
list_end P least [] zero h = refl
list_end P least [] (suc i) h = refl
list_end P least (x ∷ q) zero h = absurd (omega arith)
list_end P least (x ∷ q) (suc i) h = list_end P least q i (omega arith)

bytes-step : (P least : ℕ) (s : List ℕ) (at n : ℕ) → 0 < n
    → places_refusal P least (words_from s at n) ≡ refuse (leb P (le16 s at) || ltb (le16 s at) least) 10 (places_refusal P (le16 s at + 1) (words_from s (at + 2) (n - 1)))
unfolding places_refusal words_from
bytes-step P least s at zero h = absurd (omega arith)
bytes-step P least s at (suc n) h = let e : suc n - 1 ≡ n = omega arith in rw e

module _ (P least : ℕ) (s : List ℕ) (at n : ℕ) (some : 0 < n) (x : ℕ) (is : x ≡ le16 s at) where
  pub bytes-10 : (leb P x || ltb x least) ≡ true → places_refusal P least (words_from s at n) ≡ 10
  bytes-10 e = bytes-step P least s at n some ∙ rw (← is, e)

  pub bytes_on : (leb P x || ltb x least) ≡ false → places_refusal P least (words_from s at n) ≡ places_refusal P (x + 1) (words_from s (at + 2) (n - 1))
  bytes_on e = bytes-step P least s at n some ∙ rw (← is, e)

pub bytes-end : (P least : ℕ) (s : List ℕ) (at n : ℕ) → n ≤ 0 → places_refusal P least (words_from s at n) ≡ 0
unfolding places_refusal words_from
bytes-end P least s at zero h = refl
bytes-end P least s at (suc n) h = absurd (omega arith)

pub words_none : (s : List ℕ) (at : ℕ) → [] ≡ words_from s at 0
unfolding words_from
words_none s at = refl

words_more : (s : List ℕ) (at n : ℕ) → words_from s at (n + 1) ≡ words_from s at n ++ (le16 s (at + 2 * n) ∷ [])
unfolding words_from
words_more s at zero = let e : at + 2 * 0 ≡ at = omega arith in rw e
words_more s at (suc n) =
    let e : suc n + 1 ≡ suc (n + 1) = omega arith in
    let f : at + 2 + 2 * n ≡ at + 2 * suc n = omega arith in
    rw e (ap (λ (l : List ℕ). le16 s at ∷ l) (words_more s (at + 2) n ∙ ap (λ (k : ℕ). words_from s (at + 2) n ++ (le16 s k ∷ [])) f))

-- one place more is stored
pub words_set : (s l : List ℕ) (i x : ℕ) → i < length l → take i l ≡ words_from s 0 i → x ≡ le16 s (2 * i) → take (i + 1) (set l i x) ≡ words_from s 0 (i + 1)
words_set s l i x inside e is =
    let f : 2 * i ≡ 0 + 2 * i = omega arith in
    rw (add-one i) (take-suc-set l i x inside)
    ∙ ap (λ (k : List ℕ). k ++ (x ∷ [])) e
    ∙ ap (λ (n : ℕ). words_from s 0 i ++ (n ∷ [])) (is ∙ ap (le16 s) f)
    ∙ sym (words_more s 0 i)

-- ---- refusal 9

module _ (P : ℕ) (s : List ℕ) where
  pub odd_9 : (length s % 2 ≡ 0 → ⊥) → 9 ≡ criterion_bytes_refusal P s
  unfolding criterion_bytes_refusal
  odd_9 n = rw (ne_eqb (length s % 2) 0 n)

  pub even : length s % 2 ≡ 0 → criterion_bytes_refusal P s ≡ places_refusal P 0 (words_from s 0 (length s / 2))
  unfolding criterion_bytes_refusal criterion_refusal criterion_of
  even e = rw (eq-eqb (length s % 2) 0 e)
