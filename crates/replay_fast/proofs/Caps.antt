-- A firing of a net with caps: the places of its arcs are looked at, and no other place has got more tokens.
use Rattle.std.proofs.Common.{◌≡◌, ℕ, ◌+◌, ◌<◌, ◌≤◌, List, length, get_or, set, sym, subst, arith, ltb→lt, get_or-set_other, get_or-set_same}
use native.Mathlib.Decide.{dec_lt, ℕ_discrete}
use lib.Bits.{bit_or, or_add_and, and_le_l}
use Rattle.net.specs.Net.{WithinCaps, capped, output}
use Rattle.file.specs.Layout.{net_from}
use Rattle.file_header.specs.declared.Header.{Header}
use Rattle.arcs_column.specs.Ways.{place_at}
use Rattle.arcs_column.proofs.Arcs.{has_arc}
use Rattle.arcs_column.proofs.Stretch.{Stretch, earlier, later}
use Rattle.replay_steps.specs.Steps.{held}
use Rattle.replay_fast.specs.Moves.{Roomy}
use Rattle.replay_fast.proofs.Signs.{all-was}
use Rattle.replay_fast.proofs.Moving.{Shifting}

-- a sum of signs more
pub shifting_over : {s : List ℕ} {start from j : ℕ} {was is : List ℕ} {r : ℕ} → Shifting s start from j was is r → (w : ℕ) → Shifting s start from j was is (bit_or r w)
shifting_over {s} {start} {from} {j} {was} {is} {r} x w = record { moving = x.moving; enough = λ n. x.enough (all-was r w n) }

-- the number that was added last
pub last_now : (n v : ℕ) → bit_or n v < 9223372036854775808 → v < 9223372036854775808
last_now n v l = omega (arith, l, or_add_and n v, and_le_l n v)

-- one arc more: the entry of its place becomes v, which is within its cap
pub roomy_next : {s : List ℕ} {h : Header} {from j : ℕ} {m : List ℕ} → Roomy s h from j m → {p : ℕ} → p ≡ place_at s h.arcstart j → p < length m → (v : ℕ) → (0 < (net_from s h).cap p → v ≤ (net_from s h).cap p) → Roomy s h from (j + 1) (set m p v)
roomy_next {s} {h} {from} {j} {m} x {p} e known v fits = record { at = λ i a b. go i a b (ℕ_discrete (place_at s h.arcstart i) p) }
  where
    go : (i : ℕ) → from ≤ i → i < j + 1 → Dec (place_at s h.arcstart i ≡ p) → 0 < (net_from s h).cap (place_at s h.arcstart i) → get_or (set m p v) (place_at s h.arcstart i) 0 ≤ (net_from s h).cap (place_at s h.arcstart i)
    go i a b (yes f) = subst (λ (q : ℕ). 0 < (net_from s h).cap q → get_or (set m p v) q 0 ≤ (net_from s h).cap q) (sym f) (λ c. omega (arith, get_or-set_same m p v 0 known, fits c))
    go i a b (no f) = λ c. omega (arith, get_or-set_other m p (place_at s h.arcstart i) v 0 f, x.at i a (earlier_arc (ℕ_discrete i j)) c)
      where
        earlier_arc : Dec (i ≡ j) → i < j
        earlier_arc (yes g) = absurd (f (subst (λ (k : ℕ). place_at s h.arcstart k ≡ p) (sym g) (sym e)))
        earlier_arc (no g) = omega (arith, b, g)

-- t has fired by the arcs from..to, and a place to which it adds nothing has no more than before
module _ {s : List ℕ} {h : Header} {t from to : ℕ} (run : Stretch s h t from to) {is : List ℕ} (room : Roomy s h from to is) where
  pub within : (was : List ℕ) → ((p : ℕ) → output (net_from s h) p t ≡ 0 → get_or is p 0 ≤ get_or was p 0) → WithinCaps (net_from s h) (held was) → WithinCaps (net_from s h) (held is)
  unfolding WithinCaps capped output
  within was unfed before p l c = go (dec_lt 0 (output (net_from s h) p t))
    where
      some : 0 < (net_from s h).cap p
      some = ltb→lt 0 ((net_from s h).cap p) c

      go : Dec (0 < output (net_from s h) p t) → get_or is p 0 ≤ (net_from s h).cap p
      go (yes o) =
          let a = has_arc 1 p t s h.arcstart h.arcs o in
          let joins = a.joins_it in
          subst (λ (q : ℕ). 0 < (net_from s h).cap q → get_or is q 0 ≤ (net_from s h).cap q) joins.place (room.at a.at (begun (dec_lt a.at from)) (ended (dec_lt a.at to))) some
        where
          begun : Dec ((has_arc 1 p t s h.arcstart h.arcs o).at < from) → from ≤ (has_arc 1 p t s h.arcstart h.arcs o).at
          begun (yes u) = let a = has_arc 1 p t s h.arcstart h.arcs o in absurd (earlier run a.at u a.joins_it.transition)
          begun (no u) = omega (arith, u)

          ended : Dec ((has_arc 1 p t s h.arcstart h.arcs o).at < to) → (has_arc 1 p t s h.arcstart h.arcs o).at < to
          ended (yes u) = u
          ended (no u) = let a = has_arc 1 p t s h.arcstart h.arcs o in absurd (later run a.at (omega (arith, u)) a.below a.joins_it.transition)
      go (no o) = omega (arith, unfed p (omega (arith, o)), before p l c)
