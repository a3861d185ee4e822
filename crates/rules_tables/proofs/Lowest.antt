-- The lowest number that passes a test, found by going up.
use Prim.Native.Nat.{ℕ, ◌<◌, ◌≤◌}
use mathlib.Core.Bool.{Bool, true, false}
use mathlib.Core.Path.{◌≡◌, sym, ap, ◌∙◌}
use native.Mathlib.Omega.{arith}
use Rattle.net.specs.Numbers.{first}
use Rattle.net.specs.Checker.{Rule, breaks, breaker}
use Rattle.net.proofs.Numbers.{first-is, first-none}

-- where the numbers up to t fail the test, and no more are asked of
pub lowest_none : (f : ℕ → Bool) (n t : ℕ) → ((k : ℕ) → k < t → f k ≡ false) → n ≤ t → n ≡ first f 0 n
lowest_none f n t none l = first-none f n (λ k d. none k (omega arith))

-- the lowest number that breaks a rule
pub breaker-found : (R : Rule) (n t : ℕ) → R.range ≡ n → ((k : ℕ) → k < t → breaks R k ≡ false) → t < n → breaks R t ≡ true → t ≡ breaker R
unfolding breaker
breaker-found R n t r none l e = first-is (breaks R) n t l e none ∙ ap (first (breaks R) 0) (sym r)

pub breaker-none : (R : Rule) (n t : ℕ) → R.range ≡ n → ((k : ℕ) → k < t → breaks R k ≡ false) → n ≤ t → n ≡ breaker R
unfolding breaker
breaker-none R n t r none l = lowest_none (breaks R) n t none l ∙ ap (first (breaks R) 0) (sym r)
