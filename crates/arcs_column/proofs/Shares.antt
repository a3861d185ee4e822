-- The sum of the weights over the first arcs of a file, one arc at a time.
use Prim.Native.Nat.{ℕ, zero, suc, ◌+◌, ◌*◌, ◌-◌, ◌<◌, ◌≤◌}
use mathlib.Core.Path.{◌≡◌, refl, ap, ◌∙◌}
use mathlib.Core.Bool.{Bool, true, false, ◌&&◌}
use mathlib.Core.List.{List}
use native.Mathlib.Nat.{add-zero}
use native.Mathlib.Omega.{arith}
use borrow.Author.Tests.{eqb-true, eq-eqb}
use lib.Dec.{eqb}
use Rattle.net.specs.Net.{counted, joins, weight_on}
use Rattle.net.specs.declared.Arc.{Arc}
use Rattle.file_arcs.specs.Layout.{arc_at, arcs_from}
use Rattle.file_arcs.proofs.Rows.{weight_next}

-- one arc's part in a sum
abbrev pub share : ℕ → ℕ → ℕ → Arc → ℕ
share d p t a = counted (joins d p t a) a.weight

pub share-is : (d p t : ℕ) (a : Arc) → a.transition ≡ t → a.direction ≡ d → a.place ≡ p → share d p t a ≡ a.weight
share-is d p t a e f g = rw (eq-eqb a.transition t e, eq-eqb a.direction d f, eq-eqb a.place p g)

pub share-unless : (d p t : ℕ) (a : Arc) → (a.transition ≡ t → a.direction ≡ d → a.place ≡ p → ⊥) → share d p t a ≡ 0
share-unless d p t a other = go (eqb a.transition t) (eqb a.direction d) (eqb a.place p) refl refl refl
  where
    go : (x y z : Bool) → eqb a.transition t ≡ x → eqb a.direction d ≡ y → eqb a.place p ≡ z → counted (x && y && z) a.weight ≡ 0
    go false false z e f g = refl
    go false true z e f g = refl
    go true false z e f g = refl
    go true true false e f g = refl
    go true true true e f g = absurd (other (eqb-true _ _ e) (eqb-true _ _ f) (eqb-true _ _ g))

module _ (d p t : ℕ) (s : List ℕ) where
  module _ (at : ℕ) where
    pub sum_next : (j : ℕ) → weight_on d p t (arcs_from s at (j + 1)) ≡ weight_on d p t (arcs_from s at j) + share d p t (arc_at s (at + 8 * j))
    sum_next j = let e : j + 1 ≡ suc j = omega arith in rw e (weight_next d p t s at j)

    sum-same_by : (j k : ℕ) → ((i : ℕ) → j ≤ i → i < j + k → share d p t (arc_at s (at + 8 * i)) ≡ 0)
        → weight_on d p t (arcs_from s at (j + k)) ≡ weight_on d p t (arcs_from s at j)
    sum-same_by j zero none' = rw add-zero
    sum-same_by j (suc k) none' =
        let e : j + suc k ≡ suc (j + k) = omega arith in
        rw e (omega (arith, weight_next d p t s at (j + k), none' (j + k) (omega arith) (omega arith), sum-same_by j k (λ i l u. none' i l (omega arith))))

    -- arcs from j to k that have no part in the sum
    pub sum_same : (j k : ℕ) → j ≤ k → ((i : ℕ) → j ≤ i → i < k → share d p t (arc_at s (at + 8 * i)) ≡ 0)
        → weight_on d p t (arcs_from s at k) ≡ weight_on d p t (arcs_from s at j)
    sum_same j k l none' =
        let e : k ≡ j + (k - j) = omega arith in
        ap (λ (n : ℕ). weight_on d p t (arcs_from s at n)) e ∙ sum-same_by j (k - j) (λ i m v. none' i m (omega arith))

    sum-more_by : (j k : ℕ) → weight_on d p t (arcs_from s at j) ≤ weight_on d p t (arcs_from s at (j + k))
    sum-more_by j zero = rw add-zero (omega arith)
    sum-more_by j (suc k) =
        let e : j + suc k ≡ suc (j + k) = omega arith in
        rw e (omega (arith, weight_next d p t s at (j + k), sum-more_by j k))

    -- the sum does not fall
    pub sum_more : (j k : ℕ) → j ≤ k → weight_on d p t (arcs_from s at j) ≤ weight_on d p t (arcs_from s at k)
    sum_more j k l =
        let e : j + (k - j) ≡ k = omega arith in
        omega (arith, ap (λ (n : ℕ). weight_on d p t (arcs_from s at n)) e, sum-more_by j (k - j))
