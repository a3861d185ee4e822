-- The C call's criterion as a list of numbers.
use Prim.Native.Nat.{ℕ, ◌/◌, ◌≤◌}
use mathlib.Core.Path.{◌≡◌, ap, ◌∙◌}
use mathlib.Core.List.{List}
use native.Mathlib.Omega.{arith}
use lib.ListN.{length}
use Rattle.file.specs.Layout.{words_from}
use Rattle.file.specs.Criterion.{criterion_refusal, criterion_of, criterion_bytes_refusal}
use Rattle.file.proofs.Rows.{length-words}
use Rattle.file.proofs.Criterion.{passed, bytes-passed}

-- the C call's places are not more than the plan's
module _ (P : ℕ) (q : List ℕ) (e : criterion_bytes_refusal P q ≡ 0) where
  pub few_bytes : length q / 2 ≤ P
  unfolding criterion_of
  few_bytes = omega (arith, (passed P (criterion_of q) (bytes-passed P q e)).few, length-words q 0 (length q / 2))

  pub list_passed : (l : List ℕ) → l ≡ words_from q 0 (length q / 2) → criterion_refusal P l ≡ 0
  unfolding criterion_of
  list_passed l f = ap (criterion_refusal P) f ∙ bytes-passed P q e

  pub list_is : (l : List ℕ) → l ≡ words_from q 0 (length q / 2) → l ≡ criterion_of q
  unfolding criterion_of
  list_is l f = f
