-- From a file that was read to what the table asks, and from its entries to numbers of arcs.
use Prim.Native.Nat.{ℕ, zero, suc, ◌+◌, ◌*◌, ◌≤◌, ◌<◌}
use mathlib.Core.Path.{◌≡◌, ap}
use mathlib.Core.Bool.{true, false}
use mathlib.Core.List.{List, map}
use native.Mathlib.Omega.{arith}
use lib.Dec.{ltb}
use borrow.Author.Tests.{lt-ltb, le-ltb}
use Rattle.file_arcs.specs.Layout.{arc_at, arcs_from}
use Rattle.file_arcs.specs.Refusal.{key}
use Rattle.file_arcs.specs.Facts.{OrderedFrom}
use Rattle.file.specs.Facts.{Sound}
use Rattle.file_header.specs.declared.Header.{Header}
use Rattle.arcs_starts.specs.Table
use Rattle.file_arcs.proofs.Rows.{first, later, range_at, key-le}

pub order_at : (s : List ℕ) (at least n i j : ℕ) → OrderedFrom least (map key (arcs_from s at n)) → i ≤ j → j < n → key (arc_at s (at + 8 * i)) ≤ key (arc_at s (at + 8 * j))
order_at = key-le

-- a file that was read has what the table asks
pub tabled : (s : List ℕ) (h : Header) (size : ℕ) → Sound s h → 2 * h.transitions < size → Table.Tabled s h.arcstart h.arcs h.transitions size
unfolding Table.slot_at
tabled s h size w l =
    let p = w.placed in
    let good = range_at h.places h.transitions s h.arcstart h.arcs in
    record {
      fit = omega (arith, p.arcs_fit, p.origins_fit);
      few = p.arcs;
      number = p.transitions;
      long = l;
      slots = λ i a. let g = good i w.arcs a in omega (arith, g.direction, g.transition);
      order = λ i j a b.
          let g = good i w.arcs (omega arith) in
          let k = good j w.arcs b in
          omega (arith, p.places, g.direction, g.place, k.direction, k.place, order_at s h.arcstart 0 h.arcs i j w.order a b);
    }

-- where arcs split at k, that many have a slot below k
pub number_below_lem : (s : List ℕ) (at n k r : ℕ) → Table.Split s at n k r → Table.number_below k (arcs_from s at n) ≡ r
unfolding arcs_from Table.number_below Table.slot_at
number_below_lem s at zero k r p = omega (arith, p.within)
number_below_lem s at (suc n) k zero p =
    let e : ltb (Table.slot_of (arc_at s at)) k ≡ false = le-ltb (Table.slot_of (arc_at s at)) k (omega (arith, ap Table.slot_of (first s at), p.above 0 (omega arith) (omega arith))) in
    let rest : Table.number_below k (arcs_from s (at + 8) n) ≡ 0 = number_below_lem s (at + 8) n k zero (record {
      within = omega arith;
      below = λ i f. absurd (omega arith);
      above = λ i f g. omega (arith, ap Table.slot_of (later s at i), p.above (suc i) (omega arith) (omega arith));
    }) in
    rw e (omega (arith, rest))
number_below_lem s at (suc n) k (suc r) p =
    let e : ltb (Table.slot_of (arc_at s at)) k ≡ true = lt-ltb (Table.slot_of (arc_at s at)) k (omega (arith, ap Table.slot_of (first s at), p.below 0 (omega arith))) in
    let rest : Table.number_below k (arcs_from s (at + 8) n) ≡ r = number_below_lem s (at + 8) n k r (record {
      within = omega (arith, p.within);
      below = λ i f. omega (arith, ap Table.slot_of (later s at i), p.below (suc i) (omega arith));
      above = λ i f g. omega (arith, ap Table.slot_of (later s at i), p.above (suc i) (omega arith) (omega arith));
    }) in
    rw e (omega (arith, rest))

-- and its arcs are in order
pub ordered : (s : List ℕ) (h : Header) → Sound s h → Table.Ordered s h.arcstart h.arcs
ordered s h w = let t = tabled s h (2 * h.transitions + 1) w (omega arith) in record { fit = t.fit; few = t.few; order = t.order }
