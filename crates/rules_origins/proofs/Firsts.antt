-- The lowest number that passes a test, found by going up, or by going through a rising list.
use Prim.Native.Nat.{ℕ, ◌+◌, ◌≤◌, ◌<◌}
use mathlib.Core.Path.{◌≡◌, ap, subst}
use mathlib.Core.Bool.{Bool, true, false, not, ◌&&◌}
use mathlib.Core.List.{List}
use native.Mathlib.Omega.{arith}
use lib.Dec.{T, ltb}
use lib.ListN.{length, get_or}
use borrow.Author.Tests.{lt-ltb, le-ltb, ltb-true, ltb-false}
use Rattle.net.specs.Numbers.{among, position, first}
use Rattle.net.proofs.Numbers.{by_order, holds, fails, and_both, and_left, and_right, among-at, position-lt, at_position, first-lowest, first-is, first-none, by_cases, not-not, is_true, is_false}
use Rattle.file.specs.Facts.{RisingFrom}
use Rattle.file.proofs.Rows.{rises}
use Rattle.rules_origins.specs.Known.{Known, first_unknown}

-- ---- rules 1 and 2: an origin that the plan does not know

module _ (limit : ℕ) (os : List ℕ) (n : ℕ) where
  pub unknown_at : (i : ℕ) → i < n → limit ≤ get_or os i 0 → ((k : ℕ) → k < i → get_or os k 0 < limit) → i ≡ first_unknown limit os n
  unfolding first_unknown
  unknown_at i l e known = first-is _ n i l (rw (le-ltb (get_or os i 0) limit e)) (λ k d. rw (lt-ltb (get_or os k 0) limit (known k d)))

  pub unknown_none : ((k : ℕ) → k < n → get_or os k 0 < limit) → n ≡ first_unknown limit os n
  unfolding first_unknown
  unknown_none known = first-none _ n (λ k d. rw (lt-ltb (get_or os k 0) limit (known k d)))

-- origins rise: the last decides
pub last_decides : (limit : ℕ) (os : List ℕ) → RisingFrom 0 os → (m : ℕ) → m < length os → get_or os m 0 < limit → (k : ℕ) → k < m + 1 → get_or os k 0 < limit
last_decides limit os r m l h k d = by_order k m (λ e. omega (arith, rises os 0 r k m e l)) (λ e. rw e h) (λ e. absurd (omega arith))

-- where none is unknown, all are known
pub all_known : (limit : ℕ) (os : List ℕ) (n : ℕ) → length os ≡ n → n ≤ first_unknown limit os n → Known limit os
unfolding first_unknown
all_known limit os n e h =
    record {
      at = λ i l. below i (λ t. omega (arith, first-lowest (λ j. not (ltb (get_or os j 0) limit)) 0 n i (omega arith) (omega arith) t));
    }
  where
    below : (i : ℕ) → ¬ T (not (ltb (get_or os i 0) limit)) → get_or os i 0 < limit
    below i not_so = ltb-true (get_or os i 0) limit (is_true _ (not-not (ltb (get_or os i 0) limit) not_so))

-- ---- rules 3 and 5: a number of a rising list that passes a test

module _ (os : List ℕ) (rise : RisingFrom 0 os) (n : ℕ) (known : (i : ℕ) → i < length os → get_or os i 0 < n) (g : ℕ → Bool) where
  not-before : (i : ℕ) → i ≤ length os → ((k : ℕ) → k < i → g (get_or os k 0) ≡ false) → (y : ℕ) → ((j : ℕ) → i ≤ j → j < length os → get_or os j 0 ≡ y → ⊥) → among y os && g y ≡ false
  not-before i l none y past =
      is_false _ (λ t.
      let a = and_left (among y os) (g y) t in
      let k = position y os in
      let e : get_or os k 0 ≡ y = at_position y os a in
      by_cases (ltb k i)
      (λ b. fails _ (subst (λ (x : ℕ). g x ≡ false) e (none k (ltb-true k i b))) (and_right (among y os) (g y) t))
      (λ b. past k (ltb-false k i b) (position-lt y os a) e))

  pub scan_found : (i : ℕ) → i < length os → ((k : ℕ) → k < i → g (get_or os k 0) ≡ false) → g (get_or os i 0) ≡ true → get_or os i 0 ≡ first (λ x. among x os && g x) 0 n
  scan_found i l none e =
      let x = get_or os i 0 in
      first-is _ n x (known i l) (is_true _ (and_both (among x os) (g x) (among-at os i l) (holds _ e)))
      (λ y d. not-before i (omega arith) none y (λ j a b q. by_order i j (λ w. omega (arith, rises os 0 rise i j w b)) (λ w. omega (arith, ap (λ (z : ℕ). get_or os z 0) w)) (λ w. omega arith)))

  pub scan_none : ((k : ℕ) → k < length os → g (get_or os k 0) ≡ false) → n ≡ first (λ x. among x os && g x) 0 n
  scan_none none = first-none _ n (λ y d. not-before (length os) (omega arith) none y (λ j a b q. omega arith))
