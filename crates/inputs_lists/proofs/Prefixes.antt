-- A test over the first entries of a list, one entry at a time.
use Prim.Native.Nat.{ℕ, zero, suc, ◌+◌, ◌≤◌, ◌<◌}
use mathlib.Core.Bool.{Bool, true, false, ◌||◌}
use mathlib.Core.List.{List, [], ◌∷◌}
use mathlib.Core.Path.{◌≡◌, refl, sym, ap, ◌∙◌}
use native.Mathlib.Nat.{le_of_suc-le-suc, not-suc-le-zero}
use native.Mathlib.Numerals.{add-one}
use lib.ListN.{length, get_or, take}
use native.Mathlib.Omega.{arith}
use borrow.Author.Tests.{le-leb, leb-true}
use lib.Dec.{leb}
use Rattle.std.specs.Prelude.{IsTrue, SomeIndex, slice_index, ◌↔◌}
use lib.Seq.{take_all}
use Rattle.net.specs.Numbers.{any}
use Rattle.net.proofs.Numbers.{by_cases, holds, is_true, any-has, among-at}

or_assoc : (a b c : Bool) → (a || (b || c)) ≡ (a || b || c)
or_assoc true b c = refl
or_assoc false b c = refl

or-false : (a : Bool) → (a || false) ≡ a
or-false true = refl
or-false false = refl

module _ (f : ℕ → Bool) where
  pub any_none : (l : List ℕ) → false ≡ any f (take 0 l)
  unfolding any
  any_none l = refl

  any-suc : (l : List ℕ) (i : ℕ) → i < length l → any f (take (suc i) l) ≡ (any f (take i l) || f (get_or l i 0))
  unfolding any
  any-suc [] i h = absurd (not-suc-le-zero h)
  any-suc (x ∷ l) zero h = or-false (f x)
  any-suc (x ∷ l) (suc i) h = ap (λ b. f x || b) (any-suc l i (le_of_suc-le-suc h)) ∙ or_assoc (f x) _ _

  pub any_next : (l : List ℕ) (i : ℕ) → i < length l → any f (take (i + 1) l) ≡ (any f (take i l) || f (get_or l i 0))
  any_next l i h = rw (add-one i) (any-suc l i h)

  pub any-all : (l : List ℕ) (i : ℕ) → length l ≤ i → any f (take i l) ≡ any f l
  any-all l i h = ap (any f) (take_all i l h)

  pub any_met : (l : List ℕ) (i : ℕ) → i < length l → f (get_or l i 0) ≡ true → any f l ≡ true
  any_met l i h e = is_true (any f l) (any-has f l (get_or l i 0) (among-at l i h) (holds (f (get_or l i 0)) e))

  pub any-not_yet : (l : List ℕ) (i : ℕ) → i < length l → any f (take i l) ≡ false → f (get_or l i 0) ≡ false → any f (take (i + 1) l) ≡ false
  any-not_yet l i h e g = rw (any_next l i h, e, g)

-- a test whether some entry reaches the limit
module _ (limit : ℕ) where
  reached : (l : List ℕ) → any (leb limit) l ≡ true → SomeIndex l (λ k. limit ≤ slice_index l k)
  unfolding any
  reached [] e = let z : ◌≡◌ {A = ℕ} 0 1 = cc in absurd (omega (arith, z))
  reached (x ∷ l) e = by_cases (leb limit x)
      (λ y. (0, omega arith, leb-true limit x y))
      (λ n. let r = reached l (rw n at e) in (suc r.0, omega (arith, r.1), r.2))

  pub any_is : (l : List ℕ) (b : Bool) → (IsTrue b ↔ SomeIndex l (λ k. limit ≤ slice_index l k)) → b ≡ any (leb limit) l
  any_is l true h = let r = h.0 refl in sym (any_met (leb limit) l r.0 r.1 (le-leb limit (get_or l r.0 0) r.2))
  any_is l false h = by_cases (any (leb limit) l)
      (λ y. let f = h.1 (reached l y) in let z : ◌≡◌ {A = ℕ} 0 1 = cc in absurd (omega (arith, z)))
      (λ n. sym n)
