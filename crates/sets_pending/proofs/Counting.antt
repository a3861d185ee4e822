-- Counts of numbers that pass a test: a test that fewer pass counts less.
use Prim.Native.Nat.{ℕ, zero, suc, ◌+◌, ◌≤◌, ◌<◌}
use mathlib.Core.Bool.{Bool, true, false}
use mathlib.Core.Path.{◌≡◌, refl, ap, subst}
use native.Mathlib.Omega.{arith}
use native.Mathlib.Decide.{ℕ_discrete}
use Rattle.sets.specs.Member.{digit, count_below}

digit-le : (a b : Bool) → (a ≡ true → b ≡ true) → digit a ≤ digit b
digit-le true true h = omega arith
digit-le true false h = absurd (let z : ◌≡◌ {A = ℕ} 0 1 = cc (h refl) in omega arith)
digit-le false b h = omega arith

count_le : (f g : ℕ → Bool) (n : ℕ) → ((k : ℕ) → f k ≡ true → g k ≡ true) → count_below f n ≤ count_below g n
unfolding count_below
count_le f g zero h = omega arith
count_le f g (suc n) h = omega (arith, count_le f g n h, digit-le (f n) (g n) (h n))

-- one more passes g
pub count_less : (f g : ℕ → Bool) (n p : ℕ) → p < n → ((k : ℕ) → f k ≡ true → g k ≡ true) → f p ≡ false → g p ≡ true → count_below f n < count_below g n
unfolding count_below
count_less f g zero p l h e e' = absurd (omega arith)
count_less f g (suc n) p l h e e' = go (ℕ_discrete p n) (λ q. count_less f g n p q h e e')
  where
    go : Dec (p ≡ n) → (p < n → count_below f n < count_below g n) → count_below f n + digit (f n) < count_below g n + digit (g n)
    go (yes q) rest = omega (arith, count_le f g n h, ap digit (subst (λ (k : ℕ). f k ≡ false) q e), ap digit (subst (λ (k : ℕ). g k ≡ true) q e'))
    go (no q) rest = omega (arith, rest (omega arith), digit-le (f n) (g n) (h n))
