-- Selections part by part, and from their lowest number on; the bits of a word as a selection.
use Prim.Native.Nat.{ℕ, zero, suc, ◌+◌, ◌-◌, ◌*◌, ◌/◌, ◌%◌, ◌^◌, ◌≤◌, ◌<◌, min}
use mathlib.Core.Bool.{Bool, true, false}
use mathlib.Core.List.{List, [], ◌∷◌, ◌++◌, append-nil}
use mathlib.Core.Path.{◌≡◌, refl, sym, ap, ◌∙◌}
use mathlib.Core.Logic.{◌≢◌}
use native.Mathlib.Nat.{lt_of_not-le, pow-suc, zero-min, min-zero}
use native.Mathlib.Omega.{arith}
use lib.Bits.{bit_and, bit_xor, differ, and_step, xor_step, and_self, xor_zero_r}
use lib.Count.{count_trailing_zeros, under}
use lib.Dec.{eqb}
use lib.ListN.{length, get_or, length-append}
use borrow.Author.Tests.{eq-eqb, ne_eqb}
use Rattle.net.specs.Numbers.{selected}
use Rattle.net.proofs.Numbers.{by_cases, selected-same}
use Rattle.net.proofs.Selections.{count_next}
use Rattle.sets.specs.Member.{bit, member, count_below}
use Rattle.sets.proofs.Bits.{differs, bit-xor, bit-pow, bit-zero, trailing_below, trailing_at, trailing_all}
use Rattle.sets.proofs.Members.{member-at}
use Rattle.slice_members.specs.List.{bits_from}

-- none passes
pub selected-none : (f : ℕ → Bool) (a n : ℕ) → ((x : ℕ) → a ≤ x → x < a + n → f x ≡ false) → selected f a n ≡ []
unfolding selected
selected-none f a zero h = refl
selected-none f a (suc n) h = rw (h a (omega arith) (omega arith), selected) (selected-none f (suc a) n (λ x l u. h x (omega arith) (omega arith)))

-- the numbers from a on, and those after them
pub selected-parts : (f : ℕ → Bool) (a m n : ℕ) → selected f a (m + n) ≡ selected f a m ++ selected f (a + m) n
unfolding selected
selected-parts f a zero n =
    let e : a + 0 ≡ a = omega arith in
    let d : 0 + n ≡ n = omega arith in
    rw (e, d)
selected-parts f a (suc m) n =
    let e : suc m + n ≡ suc (m + n) = omega arith in
    let d : a + suc m ≡ suc a + m = omega arith in
    rw (e, d, selected) (by_cases (f a)
    (λ h. rw (h, selected) (ap (λ (l : List ℕ). a ∷ l) (selected-parts f (suc a) m n)))
    (λ h. rw (h, selected) (selected-parts f (suc a) m n)))

-- none passes after the first n
pub selected-below : (f : ℕ → Bool) (n m : ℕ) → ((x : ℕ) → f x ≡ true → x < n) → n ≤ m → selected f 0 m ≡ selected f 0 n
selected-below f n m h l =
    let e : n + (m - n) ≡ m = omega arith in
    ap (selected f 0) (sym e) ∙ selected-parts f 0 n (m - n)
    ∙ ap (λ (r : List ℕ). selected f 0 n ++ r) (selected-none f (0 + n) (m - n) (λ x a b. by_cases (f x) (λ k. let z = h x k in absurd (omega arith)) (λ k. k)))
    ∙ append-nil (selected f 0 n)

-- the count of those below n that pass
pub count_selected : (f : ℕ → Bool) (n : ℕ) → count_below f n ≡ length (selected f 0 n)
unfolding count_below selected
count_selected f zero = refl
count_selected f (suc n) =
    let e : 0 + n ≡ n = omega arith in
    let next = rw e at (count_next f 0 n) in
    by_cases (f n)
    (λ h. rw h (omega (arith, rw h at next, count_selected f n)))
    (λ h. rw h (omega (arith, rw h at next, count_selected f n)))

-- the lowest that passes, and those that pass once it does not
pub selected-lowest : (f g : ℕ → Bool) (a z n : ℕ) → z < n → ((k : ℕ) → k < z → f (a + k) ≡ false) → f (a + z) ≡ true → g (a + z) ≡ false
    → ((x : ℕ) → a ≤ x → x ≢ a + z → g x ≡ f x) → selected f a n ≡ (a + z) ∷ selected g a n
unfolding selected
selected-lowest f g a z zero l under at gone others = absurd (omega arith)
selected-lowest f g a zero (suc n) l under at gone others =
    let e : a + 0 ≡ a = omega arith in
    let here : f a ≡ true = rw e at at in
    let left : g a ≡ false = rw e at gone in
    rw (e, here, left, selected) (ap (λ (r : List ℕ). a ∷ r) (selected-same f g (suc a) n (λ x m u. sym (others x (omega arith) (λ q. omega arith)))))
selected-lowest f g a (suc z) (suc n) l under at gone others =
    let e : a + 0 ≡ a = omega arith in
    let d : a + suc z ≡ suc a + z = omega arith in
    let here : f a ≡ false = rw e at (under 0 (omega arith)) in
    let left : g a ≡ false = others a (omega arith) (λ q. omega arith) ∙ here in
    rw (here, left, d, selected) (selected-lowest f g (suc a) z n (omega arith)
    (λ k u. let q : a + suc k ≡ suc a + k = omega arith in rw q at (under (suc k) (omega arith)))
    (rw d at at) (rw d at gone) (λ x m q. others x (omega arith) (λ r. q (omega arith))))

-- ---- the bits of a word

same_digit : (b : Bool) → differs b false ≡ b
same_digit true = refl
same_digit false = refl

pub bits_none : (base : ℕ) → bits_from base 0 ≡ []
unfolding bits_from
bits_none base = selected-none (λ k. bit 0 (k - base)) base 64 (λ x l u. bit-zero (x - base))

-- w & (w - 1) is w without its lowest 1
without_lowest : (d w : ℕ) → count_trailing_zeros d w < d → bit_and w (w - 1) ≡ bit_xor w (2 ^ count_trailing_zeros d w)
unfolding count_trailing_zeros
without_lowest zero w h = absurd (omega arith)
without_lowest (suc d) w h = go (w % 2) refl h (λ l. without_lowest d (w / 2) l)
  where
    go : (r : ℕ) → w % 2 ≡ r → under r (count_trailing_zeros d (w / 2)) < suc d → (count_trailing_zeros d (w / 2) < d → bit_and (w / 2) (w / 2 - 1) ≡ bit_xor (w / 2) (2 ^ count_trailing_zeros d (w / 2)))
        → bit_and w (w - 1) ≡ bit_xor w (2 ^ under r (count_trailing_zeros d (w / 2)))
    go zero e h rest =
        let z = count_trailing_zeros d (w / 2) in
        let half : (w - 1) / 2 ≡ w / 2 - 1 = omega (arith, e) in
        let power : 2 ^ suc z / 2 ≡ 2 ^ z = omega (arith, pow-suc 2 z) in
        let even : 2 ^ suc z % 2 ≡ 0 = omega (arith, pow-suc 2 z) in
        and_step w (w - 1)
        ∙ (λ i. bit_and (w / 2) (half i) * 2 + min (e i) ((w - 1) % 2))
        ∙ (λ i. rest (omega arith) i * 2 + zero-min ((w - 1) % 2) i)
        ∙ sym (xor_step w (2 ^ suc z) ∙ (λ i. bit_xor (w / 2) (power i) * 2 + differ (e i) (even i)))
    go (suc r) e h rest =
        let one : w % 2 ≡ 1 = omega (arith, e) in
        let half : (w - 1) / 2 ≡ w / 2 = omega (arith, one) in
        let none : (w - 1) % 2 ≡ 0 = omega (arith, one) in
        and_step w (w - 1)
        ∙ (λ i. bit_and (w / 2) (half i) * 2 + min (w % 2) (none i))
        ∙ (λ i. and_self (w / 2) i * 2 + min-zero (w % 2) i)
        ∙ sym (xor_step w 1 ∙ (λ i. bit_xor (w / 2) 0 * 2 + differ (one i) 1) ∙ ap (λ (x : ℕ). x * 2 + 0) (xor_zero_r (w / 2)))

module _ (base w : ℕ) (small : w < 2 ^ 64) (some : w ≢ 0) where
  low_lt : count_trailing_zeros 64 w < 64
  low_lt = lt_of_not-le (λ h. some (trailing_all 64 w small h))

  bits_next : bits_from base w ≡ (base + count_trailing_zeros 64 w) ∷ bits_from base (bit_xor w (2 ^ count_trailing_zeros 64 w))
  unfolding bits_from
  bits_next =
      let z = count_trailing_zeros 64 w in
      let p : ℕ = 2 ^ z in
      let back : (k : ℕ) → base + k - base ≡ k = λ k. omega arith in
      let after : (k : ℕ) → bit (bit_xor w p) k ≡ differs (bit w k) (eqb k z) = λ k. bit-xor w p k ∙ ap (λ (b : Bool). differs (bit w k) b) (bit-pow z k) in
      selected-lowest (λ k. bit w (k - base)) (λ k. bit (bit_xor w p) (k - base)) base z 64 low_lt
      (λ k l. ap (bit w) (back k) ∙ trailing_below 64 w k l)
      (ap (bit w) (back z) ∙ trailing_at 64 w low_lt)
      (ap (bit (bit_xor w p)) (back z) ∙ after z ∙ rw (eq-eqb z z refl, trailing_at 64 w low_lt))
      (λ x l q. after (x - base) ∙ rw (ne_eqb (x - base) z (λ e. q (omega arith))) (same_digit (bit w (x - base))))

  pub bits_rest : bits_from base w ≡ (base + count_trailing_zeros 64 w) ∷ bits_from base (bit_and w (w - 1))
  bits_rest = bits_next ∙ ap (λ (x : ℕ). (base + count_trailing_zeros 64 w) ∷ bits_from base x) (sym (without_lowest 64 w low_lt))

-- word i of a set
pub word-bits : (words : List ℕ) (i : ℕ) → selected (member words) (i * 64) 64 ≡ bits_from (i * 64) (get_or words i 0)
unfolding bits_from
word-bits words i = selected-same (member words) (λ k. bit (get_or words i 0) (k - i * 64)) (i * 64) 64 (λ x l u.
    let e : i * 64 + (x - i * 64) ≡ x = omega arith in
    ap (member words) (sym e) ∙ member-at words i (x - i * 64) (omega arith))

-- the members from word i on: those of word i, and those from the next word on
module _ (words : List ℕ) (i m : ℕ) (h : i < m) where
  pub members_next : selected (member words) (i * 64) (m * 64 - i * 64) ≡ bits_from (i * 64) (get_or words i 0) ++ selected (member words) ((i + 1) * 64) (m * 64 - (i + 1) * 64)
  members_next =
      let e : m * 64 - i * 64 ≡ 64 + (m * 64 - (i + 1) * 64) = omega arith in
      let d : i * 64 + 64 ≡ (i + 1) * 64 = omega arith in
      ap (selected (member words) (i * 64)) e ∙ selected-parts (member words) (i * 64) 64 (m * 64 - (i + 1) * 64)
      ∙ (λ j. word-bits words i j ++ selected (member words) (d j) (m * 64 - (i + 1) * 64))

  pub members_count : length (selected (member words) (i * 64) (m * 64 - i * 64)) ≡ length (bits_from (i * 64) (get_or words i 0)) + length (selected (member words) ((i + 1) * 64) (m * 64 - (i + 1) * 64))
  members_count = ap length members_next ∙ length-append (bits_from (i * 64) (get_or words i 0)) (selected (member words) ((i + 1) * 64) (m * 64 - (i + 1) * 64))

-- nothing from word m on
pub selected-end : (f : ℕ → Bool) (i m : ℕ) → m ≤ i → selected f (i * 64) (m * 64 - i * 64) ≡ []
unfolding selected
selected-end f i m h = let e : m * 64 - i * 64 ≡ 0 = omega arith in rw (e, selected)
