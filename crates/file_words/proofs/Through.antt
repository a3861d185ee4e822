-- A test that is gone through to the end: what was met so far, and what the rest says.
use Prim.Native.Nat.{ℕ, suc}
use mathlib.Core.Path.{◌≡◌, refl}
use mathlib.Core.Bool.{Bool, true, false, not, ◌||◌, ◌&&◌}
use native.Mathlib.Omega.{arith}
use lib.Dec.{eqb}
use borrow.Author.Tests.{ne_eqb}
use Rattle.file_words.specs.Refusal.{refuse}

pub passed : (b : Bool) (k r : ℕ) → eqb (refuse b (suc k) r) 0 ≡ (not b && eqb r 0)
passed true k r = ne_eqb (suc k) 0 (λ e. omega (arith, e))
passed false k r = refl

pub one_more : (f b r t : Bool) → t ≡ (not f && (not b && r)) → t ≡ (not (f || b) && r)
one_more true b r t e = e
one_more false b r t e = e

pub and-true : (f : Bool) → (not f && true) ≡ not f
and-true true = refl
and-true false = refl
