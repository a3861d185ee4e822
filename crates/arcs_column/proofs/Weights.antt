-- The sum over the run of a transition's arcs in one direction is its weight there.
use Prim.Native.Nat.{ℕ, zero, suc, ◌+◌, ◌*◌, ◌-◌, ◌≤◌, ◌<◌}
use mathlib.Core.Path.{◌≡◌, refl, subst}
use mathlib.Core.Bool.{Bool, true, false, ◌&&◌}
use mathlib.Core.List.{List}
use native.Mathlib.Omega.{arith}
use native.Mathlib.Decide.{dec_lt}
use lib.Dec.{eqb}
use borrow.Author.Tests.{eq-eqb, eqb-true}
use Rattle.net.specs.Net.{counted, joins, weight_on}
use Rattle.file_arcs.specs.Layout.{arc_at, arcs_from}
use Rattle.net.specs.declared.Arc.{Arc}
use Rattle.arcs_starts.specs.Table.{slot_of, slot_at, Split}
use Rattle.arcs_column.specs.Gain
use Rattle.file_arcs.proofs.Rows.{weight_next, weight_none}

share_other : (d p t : ℕ) (a : Arc) → (slot_of a ≡ 2 * t + d → ⊥) → counted (joins d p t a) a.weight ≡ 0
share_other d p t a other = go (eqb a.transition t) (eqb a.direction d) (eqb a.place p) refl refl
  where
    go : (x y z : Bool) → eqb a.transition t ≡ x → eqb a.direction d ≡ y → counted (x && y && z) a.weight ≡ 0
    go false false z e f = refl
    go false true z e f = refl
    go true false z e f = refl
    go true true z e f = absurd (other (omega (arith, eqb-true a.transition t e, eqb-true a.direction d f)))

share-run : (d p t : ℕ) (a : Arc) → slot_of a ≡ 2 * t + d → a.direction ≤ 1 → d ≤ 1 → counted (joins d p t a) a.weight ≡ Gain.part p a
share-run d p t a e f g =
    let h : a.transition ≡ t = omega arith in
    let k : a.direction ≡ d = omega arith in
    rw (eq-eqb a.transition t h, eq-eqb a.direction d k)

module _ (d p t : ℕ) (s : List ℕ) (start n b e : ℕ) (dl : d ≤ 1) (ways : (i : ℕ) → i < n → (arc_at s (start + 8 * i)).direction ≤ 1) (low : Split s start n (2 * t + d) b) (high : Split s start n (2 * t + d + 1) e) where
  before : (j : ℕ) → j ≤ b → weight_on d p t (arcs_from s start j) ≡ 0
  unfolding slot_at
  before zero l = weight_none d p t s start
  before (suc j) l =
      omega (arith, weight_next d p t s start j, before j (omega arith), share_other d p t (arc_at s (start + 8 * j)) (λ q. omega (arith, q, low.below j (omega arith))))

  within : (k : ℕ) → b + k ≤ e → weight_on d p t (arcs_from s start (b + k)) + Gain.sum_to s start p b ≡ Gain.sum_to s start p (b + k)
  unfolding slot_at Gain.sum_to
  within zero l = let z : b + 0 ≡ b = omega arith in rw z (omega (arith, before b (omega arith)))
  within (suc k) l =
      let z : b + suc k ≡ suc (b + k) = omega arith in
      let i : b + k < n = omega (arith, high.within) in
      let x : slot_of (arc_at s (start + 8 * (b + k))) ≡ 2 * t + d = omega (arith, low.above (b + k) (omega arith) i, high.below (b + k) (omega arith)) in
      rw z (omega (arith, weight_next d p t s start (b + k), within k (omega arith), share-run d p t (arc_at s (start + 8 * (b + k))) x (ways (b + k) i) dl))

  after : (k : ℕ) → e + k ≤ n → weight_on d p t (arcs_from s start (e + k)) ≡ weight_on d p t (arcs_from s start e)
  unfolding slot_at
  after zero l = let z : e + 0 ≡ e = omega arith in rw z
  after (suc k) l =
      let z : e + suc k ≡ suc (e + k) = omega arith in
      rw z (omega (arith, weight_next d p t s start (e + k), after k (omega arith), share_other d p t (arc_at s (start + 8 * (e + k))) (λ q. omega (arith, q, high.above (e + k) (omega arith) (omega arith)))))

  -- b ≤ e, since no arc has a slot below 2t + d and not below 2t + d + 1
  pub rising : b ≤ e
  rising = go (dec_lt e b)
    where
      go : Dec (e < b) → b ≤ e
      go (yes l) = absurd (omega (arith, low.below e l, high.above e (omega arith) (omega (arith, low.within))))
      go (no l) = omega (arith, l)

  pub weight_run : Gain.sum_to s start p e ≡ Gain.sum_to s start p b + weight_on d p t (arcs_from s start n)
  weight_run =
      let l = rising in
      let z : b + (e - b) ≡ e = omega arith in
      let y : e + (n - e) ≡ n = omega (arith, high.within) in
      omega (
        arith,
        subst (λ (k : ℕ). weight_on d p t (arcs_from s start k) + Gain.sum_to s start p b ≡ Gain.sum_to s start p k) z (within (e - b) (omega arith)),
        subst (λ (k : ℕ). weight_on d p t (arcs_from s start k) ≡ weight_on d p t (arcs_from s start e)) y (after (n - e) (omega arith)),
      )
