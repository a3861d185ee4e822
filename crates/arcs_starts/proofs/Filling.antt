-- The table of starts by transitions, filled in as the arcs come.
use Prim.Native.Nat.{ℕ, ◌+◌, ◌*◌, ◌≤◌, ◌<◌}
use mathlib.Core.Path.{◌≡◌, sym, subst}
use mathlib.Core.List.{List}
use native.Mathlib.Omega.{arith}
use native.Mathlib.Decide.{dec_lt, ℕ_discrete}
use lib.ListN.{length, get_or}
use Rattle.file_arcs.specs.Layout.{arc_at}
use Rattle.arcs_starts.specs.Table.{slot_at, Split, Tabled, PutUp}

-- the entries from next on, up to k
pub record Putting (next last v : ℕ) (was is : List ℕ) (k : ℕ) : Type 0 where
  pub long : length is ≡ length was
  pub kept : (i : ℕ) → i < next → get_or is i 0 ≡ get_or was i 0
  pub set : (i : ℕ) → next ≤ i → i < k → get_or is i 0 ≡ v
  pub from : next ≤ k
  pub to : (m : ℕ) → next ≤ m → last < m → k ≤ m

-- the entries before `next` are made, and the first j arcs are of transitions before it
pub record Firsts (s : List ℕ) (start n j next : ℕ) (table : List ℕ) : Type 0 where
  pub made : (k : ℕ) → k < next → Split s start n (2 * k) (get_or table k 0)
  pub passed : (i : ℕ) → i < j → (arc_at s (start + 8 * i)).transition < next

module _ {s : List ℕ} {start n T size : ℕ} (t : Tabled s start n T size) (ways : (i : ℕ) → i < n → (arc_at s (start + 8 * i)).direction ≤ 1)
    {j next : ℕ} {was : List ℕ} (x : Firsts s start n j next was) where
  -- the transitions from next up to that of arc j start at arc j
  pub firsts_more : j < n → {last r : ℕ} {is : List ℕ} → last ≡ (arc_at s (start + 8 * j)).transition → PutUp next last j was is r → Firsts s start n (j + 1) r is
  unfolding slot_at
  firsts_more l {last} {r} {is} e p = record { made = λ k m. made k m (dec_lt k next); passed = λ i m. passed i m (ℕ_discrete i j) }
    where
      starts : (k : ℕ) → next ≤ k → k ≤ last → Split s start n (2 * k) j
      starts k a b = record {
        within = omega (arith, l);
        below = λ i u. omega (arith, x.passed i u, ways i (omega (arith, u, l)), a);
        above = λ i u v. omega (arith, t.order j i u v, e, b);
      }

      made : (k : ℕ) → k < r → Dec (k < next) → Split s start n (2 * k) (get_or is k 0)
      made k m (yes a) = subst (Split s start n (2 * k)) (sym (p.kept k a)) (x.made k a)
      made k m (no a) =
          let b : k ≤ last = below (dec_lt last k) in
          subst (Split s start n (2 * k)) (sym (p.set k (omega (arith, a)) b)) (starts k (omega (arith, a)) b)
        where
          below : Dec (last < k) → k ≤ last
          below (yes q) = absurd (omega (arith, m, p.to k (omega (arith, a)) q))
          below (no q) = omega (arith, q)

      passed : (i : ℕ) → i < j + 1 → Dec (i ≡ j) → (arc_at s (start + 8 * i)).transition < r
      passed i m (yes q) = subst (λ (k : ℕ). (arc_at s (start + 8 * k)).transition < r) (sym q) (omega (arith, e, p.past))
      passed i m (no q) = omega (arith, x.passed i (omega (arith, m, q)), p.from)

  -- and those that are left start at the end
  pub firsts_end : n ≤ j → {r : ℕ} {is : List ℕ} → PutUp next T n was is r → (k : ℕ) → k ≤ T → Split s start n (2 * k) (get_or is k 0)
  unfolding slot_at
  firsts_end l {r} {is} p k m = made (dec_lt k next)
    where
      at_end : next ≤ k → Split s start n (2 * k) n
      at_end a = record { within = omega arith; below = λ i u. omega (arith, x.passed i (omega (arith, u, l)), ways i u, a); above = λ i u v. absurd (omega (arith, u, v)) }

      made : Dec (k < next) → Split s start n (2 * k) (get_or is k 0)
      made (yes a) = subst (Split s start n (2 * k)) (sym (p.kept k a)) (x.made k a)
      made (no a) = subst (Split s start n (2 * k)) (sym (p.set k (omega (arith, a)) m)) (at_end (omega (arith, a)))
