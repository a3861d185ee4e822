-- A table of numbers that rises, by neighbours.
use Prim.Native.Nat.{ℕ, zero, suc, ◌+◌, ◌-◌, ◌≤◌, ◌<◌}
use mathlib.Core.Path.{◌≡◌, refl, ap, ◌∙◌}
use mathlib.Core.Bool.{Bool, true, false, not, ◌&&◌}
use mathlib.Core.List.{List}
use native.Mathlib.Omega.{arith}
use native.Mathlib.Decide.{dec_lt}
use lib.Dec.{eqb, ltb, leb}
use borrow.Author.Tests.{lt-ltb, le-ltb, le-leb, lt-leb}
use Rattle.file_words.specs.Word.{le16}
use Rattle.file_words.specs.Refusal.{table_refusal, refuse}
use Rattle.file_words.proofs.Laws.{table_step, table_end}
use Rattle.file_words.proofs.Through.{passed}

-- the first number may be any
from_zero : (s : List ℕ) (at n : ℕ) → 0 < n → table_refusal s at 0 n ≡ table_refusal s (at + 2) (le16 s at + 1) (n - 1)
from_zero s at n h = table_step s at 0 n h ∙ rw (le-ltb (le16 s at) 0 (omega arith))

below_next : (a b : ℕ) → ltb a (b + 1) ≡ leb a b
below_next a b = go (dec_lt b a)
  where
    go : Dec (b < a) → ltb a (b + 1) ≡ leb a b
    go (yes h) = rw (le-ltb a (b + 1) (omega (arith, h)), lt-leb a b h)
    go (no h) = rw (lt-ltb a (b + 1) (omega (arith, h)), le-leb a b (omega (arith, h)))

-- two numbers or more: the first two rise, and so do those from the second on
pub next-rises : (s : List ℕ) (at n : ℕ) → 1 < n → eqb (table_refusal s at 0 n) 0 ≡ (not (leb (le16 s (at + 2)) (le16 s at)) && eqb (table_refusal s (at + 2) 0 (n - 1)) 0)
next-rises s at n h =
    ap (λ (x : ℕ). eqb x 0) (from_zero s at n (omega (arith, h)) ∙ table_step s (at + 2) (le16 s at + 1) (n - 1) (omega (arith, h)))
    ∙ rw (below_next (le16 s (at + 2)) (le16 s at), ← from_zero s (at + 2) (n - 1) (omega (arith, h))) (passed (leb (le16 s (at + 2)) (le16 s at)) 7 (table_refusal s (at + 2) 0 (n - 1)))

-- one number, or none
pub single : (s : List ℕ) (at n : ℕ) → n ≤ 1 → table_refusal s at 0 n ≡ 0
single s at zero h = table_end s at 0 zero (omega arith)
single s at (suc n) h = from_zero s at (suc n) (omega arith) ∙ table_end s (at + 2) (le16 s at + 1) (suc n - 1) (omega (arith, h))

-- nothing but 8 is told
pub zero_or_8 : (s : List ℕ) (at least n : ℕ) → eqb (table_refusal s at least n) 0 ≡ false → 8 ≡ table_refusal s at least n
unfolding table_refusal
zero_or_8 s at least zero e = let z : ◌≡◌ {A = ℕ} 0 1 = cc in absurd (omega (arith, z))
zero_or_8 s at least (suc n) e = go (ltb (le16 s at) least) e (λ f. zero_or_8 s (at + 2) (le16 s at + 1) n f)
  where
    go : (b : Bool) → eqb (refuse b 8 (table_refusal s (at + 2) (le16 s at + 1) n)) 0 ≡ false
        → (eqb (table_refusal s (at + 2) (le16 s at + 1) n) 0 ≡ false → 8 ≡ table_refusal s (at + 2) (le16 s at + 1) n)
        → 8 ≡ refuse b 8 (table_refusal s (at + 2) (le16 s at + 1) n)
    go true e rest = refl
    go false e rest = rest e
