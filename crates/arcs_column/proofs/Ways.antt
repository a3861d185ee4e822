-- Laws of sums in one direction, and that over the run of a transition's arcs.
use Prim.Native.Nat.{ℕ, zero, suc, ◌+◌, ◌*◌, ◌-◌, ◌≤◌, ◌<◌}
use mathlib.Core.Bool.{Bool, true, false, ◌&&◌}
use mathlib.Core.List.{List}
use mathlib.Core.Path.{◌≡◌, refl, ap, ◌∙◌, subst}
use mathlib.Core.Logic.{◌≢◌}
use native.Mathlib.Omega.{arith}
use native.Mathlib.Numerals.{add-one}
use lib.Dec.{eqb}
use borrow.Author.Tests.{eq-eqb, ne_eqb}
use Rattle.net.specs.Net.{counted, joins, weight_on}
use Rattle.net.specs.declared.Arc.{Arc}
use Rattle.file_arcs.specs.Layout.{arc_at, arcs_from}
use Rattle.file_arcs.proofs.Rows.{weight_none, weight_next}
use Rattle.arcs_column.specs.Ways.{transition_at, share, sum_on}

module _ (d : ℕ) (s : List ℕ) (start p : ℕ) where
  pub sum_next : (j : ℕ) → sum_on d s start p (j + 1) ≡ sum_on d s start p j + share d p (arc_at s (start + 8 * j))
  unfolding sum_on
  sum_next j = ap (sum_on d s start p) (add-one j)

  sum_more : (j k : ℕ) → sum_on d s start p j ≤ sum_on d s start p (j + k)
  sum_more j zero = let e : j + 0 ≡ j = omega arith in rw e (omega arith)
  sum_more j (suc k) = let e : j + suc k ≡ j + k + 1 = omega arith in rw e (omega (arith, sum_next (j + k), sum_more j k))

  pub sum-rises : (j k : ℕ) → j ≤ k → sum_on d s start p j ≤ sum_on d s start p k
  sum-rises j k l = let e : j + (k - j) ≡ k = omega arith in subst (λ (x : ℕ). sum_on d s start p j ≤ sum_on d s start p x) e (sum_more j (k - j))

-- ---- what one arc adds

module _ (a : Arc) where
  pub share-here : (d : ℕ) → a.direction ≡ d → share d a.place a ≡ a.weight
  share-here d e = rw (eq-eqb a.direction d e, eq-eqb a.place a.place refl)

  pub share-against : (d p : ℕ) → a.direction ≢ d → share d p a ≡ 0
  share-against d p n = rw (ne_eqb a.direction d n)

  pub share-elsewhere : (d p : ℕ) → a.place ≢ p → share d p a ≡ 0
  share-elsewhere d p n = rw (ne_eqb a.place p n) (none (eqb a.direction d))
    where
      none : (b : Bool) → counted (b && false) a.weight ≡ 0
      none true = refl
      none false = refl

-- arcs from j to k of which none goes in direction d
module _ (d : ℕ) (s : List ℕ) (start p j : ℕ) where
  sum-quiet_by : (k : ℕ) → ((i : ℕ) → j ≤ i → i < j + k → (arc_at s (start + 8 * i)).direction ≢ d) → sum_on d s start p (j + k) ≡ sum_on d s start p j
  sum-quiet_by zero n = ap (sum_on d s start p) (let e : j + 0 ≡ j = omega arith in e)
  sum-quiet_by (suc k) n =
      let e : j + suc k ≡ j + k + 1 = omega arith in
      rw e (omega (arith, sum_next d s start p (j + k), share-against (arc_at s (start + 8 * (j + k))) d p (n (j + k) (omega arith) (omega arith)), sum-quiet_by k (λ i l m. n i l (omega arith))))

  pub sum-quiet : (k : ℕ) → j ≤ k → ((i : ℕ) → j ≤ i → i < k → (arc_at s (start + 8 * i)).direction ≢ d) → sum_on d s start p k ≡ sum_on d s start p j
  sum-quiet k l n =
      let e : k ≡ j + (k - j) = omega arith in
      ap (sum_on d s start p) e ∙ sum-quiet_by (k - j) (λ i a b. n i a (omega arith))

-- ---- the arcs of t stand from b to e of n

module _ (d p t : ℕ) (s : List ℕ) (start n b e : ℕ) (low : (i : ℕ) → i < b → transition_at s start i ≢ t) (here : (i : ℕ) → b ≤ i → i < e → transition_at s start i ≡ t)
    (high : (i : ℕ) → e ≤ i → i < n → transition_at s start i ≢ t) (rises : b ≤ e) (within : e ≤ n) where
  other : (a : Arc) → a.transition ≢ t → counted (joins d p t a) a.weight ≡ 0
  other a h = rw (ne_eqb a.transition t h)

  own : (a : Arc) → a.transition ≡ t → counted (joins d p t a) a.weight ≡ share d p a
  own a h = rw (eq-eqb a.transition t h)

  before : (j : ℕ) → j ≤ b → weight_on d p t (arcs_from s start j) ≡ 0
  before zero l = weight_none d p t s start
  before (suc j) l = omega (arith, weight_next d p t s start j, before j (omega arith), other (arc_at s (start + 8 * j)) (low j (omega arith)))

  inside-run : (k : ℕ) → b + k ≤ e → weight_on d p t (arcs_from s start (b + k)) + sum_on d s start p b ≡ sum_on d s start p (b + k)
  unfolding sum_on
  inside-run zero l = let z : b + 0 ≡ b = omega arith in rw z (omega (arith, before b (omega arith)))
  inside-run (suc k) l =
      let z : b + suc k ≡ suc (b + k) = omega arith in
      rw z (omega (arith, weight_next d p t s start (b + k), inside-run k (omega arith), own (arc_at s (start + 8 * (b + k))) (here (b + k) (omega arith) (omega arith))))

  after : (k : ℕ) → e + k ≤ n → weight_on d p t (arcs_from s start (e + k)) ≡ weight_on d p t (arcs_from s start e)
  after zero l = let z : e + 0 ≡ e = omega arith in rw z
  after (suc k) l =
      let z : e + suc k ≡ suc (e + k) = omega arith in
      rw z (omega (arith, weight_next d p t s start (e + k), after k (omega arith), other (arc_at s (start + 8 * (e + k))) (high (e + k) (omega arith) (omega arith))))

  pub sum-run : sum_on d s start p e ≡ sum_on d s start p b + weight_on d p t (arcs_from s start n)
  sum-run =
      let z : b + (e - b) ≡ e = omega arith in
      let y : e + (n - e) ≡ n = omega arith in
      omega (
        arith,
        subst (λ (k : ℕ). weight_on d p t (arcs_from s start k) + sum_on d s start p b ≡ sum_on d s start p k) z (inside-run (e - b) (omega arith)),
        subst (λ (k : ℕ). weight_on d p t (arcs_from s start k) ≡ weight_on d p t (arcs_from s start e)) y (after (n - e) (omega arith)),
      )
