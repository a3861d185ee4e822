-- What an arc does to the entry of its place, and what those of a run of arcs do to all.
use Rattle.std.proofs.Common.{◌≡◌, ℕ, ◌+◌, ◌-◌, ◌*◌, ◌%◌, ◌^◌, ◌<◌, ◌≤◌, List, length, get_or, set, sym, refl, ap, ◌∙◌, subst, arith, length-set, get_or-set_other, get_or-set_same, set-set}
use native.Mathlib.Decide.{ℕ_discrete}
use lib.Bits.{bit_or, or_add_and}
use lib.Seq.{set-get_or}
use Rattle.net.specs.declared.Arc.{Arc}
use Rattle.file_arcs.specs.Layout.{arc_at}
use Rattle.file_arcs.specs.Facts.{ArcGood}
use Rattle.file_header.specs.declared.Header.{Header}
use Rattle.file_words.proofs.Bytes.{le16-lt}
use Rattle.arcs_column.specs.Ways.{place_at, share, sum_on}
use Rattle.file.proofs.Rows.{good_at}
use Rattle.arcs_column.proofs.Ways.{sum_next, sum-rises, share-here, share-against, share-elsewhere}
use Rattle.replay_fast.specs.Moves.{change_of, Weighs, Signed, change_at, MovesOf, lift, lift_at, Movable, Moved, Whole}
use Rattle.replay_fast.proofs.Signs.{takes_is, gives_is, add-takes, add-gives, sub-takes, sub-gives, all-was, all-now}

-- ---- the number in the table is what the arc adds

module _ {s : List ℕ} {h : Header} {places changes : List ℕ} (mv : MovesOf s h places changes) {from to : ℕ} {was : List ℕ} (can : Movable s h from to was) (j : ℕ) (l : j < to) where
  pub change_is : {c : ℕ} → Signed (get_or changes j 0) c → Signed (change_at s h.arcstart j) c
  change_is {c} = subst (λ (k : ℕ). Signed k c) (mv.change j (omega (arith, can.within)))

  -- and so is the place
  pub place_is : {p : ℕ} → p ≡ get_or places j 0 → p ≡ place_at s h.arcstart j
  place_is e = e ∙ mv.place j (omega (arith, can.within))

-- ---- the arcs from `from` to j of those from..to

pub record Moving (d g : ℕ) (s : List ℕ) (start from j : ℕ) (was is : List ℕ) : Type 0 where
  pub rising : from ≤ j
  pub moved : Moved d g s start from j was is

module _ {d g : ℕ} {s : List ℕ} {start from : ℕ} {was : List ℕ} where
  pub moving_none : ((p : ℕ) → get_or was p 0 < 18446744073709551616) → Moving d g s start from from was was
  moving_none fits = record { rising = omega arith; moved = record { long = refl; at = λ p l. omega arith; fits = fits } }

module _ {s : List ℕ} {h : Header} {from to : ℕ} {was : List ℕ} (can : Movable s h from to was) (j : ℕ) (l : j < to) where
  abbrev a : Arc
  a = arc_at s (h.arcstart + 8 * j)

  abbrev q : ℕ
  q = place_at s h.arcstart j

  good : ArcGood h.places h.transitions (arc_at s (h.arcstart + 8 * j))
  good = good_at s h can.sound j (omega (arith, can.within))

  weighs : Weighs a.weight
  weighs = record { some = good.weight; below = le16-lt s can.bytes (h.arcstart + 8 * j + 6) }

  -- the arc's place is one of the marking's
  pub place-known : place_at s h.arcstart j < length was
  place-known = omega (arith, good.place, can.held)

  pub place_inside : {p n : ℕ} → p ≡ place_at s h.arcstart j → n ≡ length was → p < n
  place_inside e long = omega (arith, e, place-known, long)

  -- the arc as it is read from the file
  module _ {b : Arc} (e : b ≡ arc_at s (h.arcstart + 8 * j)) where
    pub read_weighs : Weighs b.weight
    read_weighs = subst (λ (o : Arc). Weighs o.weight) (sym e) weighs

    pub read_change : {c : ℕ} → Signed (change_of b.direction b.weight) c → Signed (change_at s h.arcstart j) c
    read_change {c} = subst (λ (o : Arc). Signed (change_of o.direction o.weight) c) e

  module _ {d g : ℕ} {is : List ℕ} (x : Moving d g s h.arcstart from j was is) where
    -- no entry leaves its room
    room_low : (p : ℕ) → p < length was → 65536 ≤ lift_at is p
    room_low p u = omega (arith, x.moved.at p u, can.least p u, can.small d p, sum-rises g s h.arcstart p from j x.rising, sum-rises d s h.arcstart p j to (omega arith))

    room_high : (p : ℕ) → p < length was → lift_at is p < 18446744073709486080
    room_high p u = omega (arith, x.moved.at p u, can.most p u, can.small g p, sum-rises d s h.arcstart p from j x.rising, sum-rises g s h.arcstart p j to (omega arith))

    module _ (v : ℕ) (fits : v < 18446744073709551616) (turned : lift v + share d a.place a ≡ lift_at is a.place + share g a.place a) where
      known : place_at s h.arcstart j < length is
      known = omega (arith, place-known, x.moved.long)

      each : (p : ℕ) → p < length was → Dec (q ≡ p)
          → lift_at (set is q v) p + sum_on d s h.arcstart p (j + 1) + sum_on g s h.arcstart p from ≡ lift_at was p + sum_on g s h.arcstart p (j + 1) + sum_on d s h.arcstart p from
      each p u (yes e) =
          subst (λ (k : ℕ). lift_at (set is q v) k + sum_on d s h.arcstart k (j + 1) + sum_on g s h.arcstart k from ≡ lift_at was k + sum_on g s h.arcstart k (j + 1) + sum_on d s h.arcstart k from) e
          (omega (arith, x.moved.at q place-known, ap lift (get_or-set_same is q v 0 known), turned, sum_next d s h.arcstart q j, sum_next g s h.arcstart q j))
      each p u (no e) =
          omega (arith, x.moved.at p u, ap lift (get_or-set_other is q p v 0 (λ z. e (sym z))), share-elsewhere a d p e, share-elsewhere a g p e, sum_next d s h.arcstart p j, sum_next g s h.arcstart p j)

      all_fit : (p : ℕ) → Dec (q ≡ p) → get_or (set is q v) p 0 < 18446744073709551616
      all_fit p (yes e) = subst (λ (k : ℕ). get_or (set is q v) k 0 < 18446744073709551616) e (omega (arith, get_or-set_same is q v 0 known, fits))
      all_fit p (no e) = omega (arith, get_or-set_other is q p v 0 (λ z. e (sym z)), x.moved.fits p)

      pub moving_more : Moving d g s h.arcstart from (j + 1) was (set is (place_at s h.arcstart j) v)
      moving_more = record {
        rising = omega (arith, x.rising);
        moved = record { long = length-set is q v ∙ x.moved.long; at = λ p u. each p u (ℕ_discrete q p); fits = λ p. all_fit p (ℕ_discrete q p) };
      }

  -- the number it adds, with its sign
  module _ {c : ℕ} (y : Signed (change_at s h.arcstart j) c) where
    takes : a.direction ≡ 0 → c + a.weight ≡ 18446744073709551616
    takes = takes_is a.direction a.weight weighs c y

    gives : (a.direction ≡ 0 → ⊥) → c ≡ a.weight
    gives = gives_is a.direction a.weight weighs c y

    -- forwards an input takes, and an output gives
    add-turns : {is : List ℕ} → Moving 0 1 s h.arcstart from j was is → (v : ℕ) → v ≡ (get_or is (place_at s h.arcstart j) 0 + c) % 2 ^ 64 → lift v + share 0 a.place a ≡ lift_at is a.place + share 1 a.place a
    add-turns {is} x v e = go (ℕ_discrete a.direction 0)
      where
        go : Dec (a.direction ≡ 0) → lift v + share 0 a.place a ≡ lift_at is a.place + share 1 a.place a
        go (yes z) =
            omega (arith, ap lift e, add-takes (get_or is q 0) a.weight c (takes z) weighs.below (room_low x q place-known), share-here a 0 z, share-against a 1 q (λ y. omega arith))
        go (no z) =
            omega (arith, ap lift e, add-gives (get_or is q 0) a.weight c (gives z) weighs.below (room_high x q place-known), share-against a 0 q z, share-here a 1 (omega (arith, good.direction, z)))

    -- and back
    sub-turns : {is : List ℕ} → Moving 1 0 s h.arcstart from j was is → (v : ℕ) → (v + c) % 2 ^ 64 ≡ get_or is (place_at s h.arcstart j) 0 → lift v + share 1 a.place a ≡ lift_at is a.place + share 0 a.place a
    sub-turns {is} x v e = go (ℕ_discrete a.direction 0)
      where
        go : Dec (a.direction ≡ 0) → lift v + share 1 a.place a ≡ lift_at is a.place + share 0 a.place a
        go (yes z) =
            omega (arith, sub-takes v (get_or is q 0) a.weight c (takes z) weighs.below (room_high x q place-known) e, share-here a 0 z, share-against a 1 q (λ y. omega arith))
        go (no z) =
            omega (arith, sub-gives v (get_or is q 0) a.weight c (gives z) weighs.below (room_low x q place-known) e, share-against a 0 q z, share-here a 1 (omega (arith, good.direction, z)))

    -- one arc more
    pub back_more : {is : List ℕ} → Moving 1 0 s h.arcstart from j was is → {p : ℕ} → p ≡ place_at s h.arcstart j → c < 18446744073709551616
        → Moving 1 0 s h.arcstart from (j + 1) was (set is p ((get_or is p 0 + (18446744073709551616 - c)) % 18446744073709551616))
    back_more {is} x f small =
        let v = (get_or is q 0 + (18446744073709551616 - c)) % 18446744073709551616 in
        subst (λ (k : ℕ). Moving 1 0 s h.arcstart from (j + 1) was (set is k ((get_or is k 0 + (18446744073709551616 - c)) % 18446744073709551616))) (sym f)
        (moving_more x v (omega arith) (sub-turns x v (omega (arith, small, x.moved.fits q))))

-- ---- forwards, with bit 63 of all the entries met

pub record Shifting (s : List ℕ) (start from j : ℕ) (was is : List ℕ) (r : ℕ) : Type 0 where
  pub moving : Moving 0 1 s start from j was is
  pub enough : r < 9223372036854775808 → Whole was → (p : ℕ) → p < length was → 9223372036854775808 + sum_on 0 s start p j ≤ lift_at was p + sum_on 0 s start p from

pub shifting_none : {s : List ℕ} {start from : ℕ} {was : List ℕ} → ((p : ℕ) → get_or was p 0 < 18446744073709551616) → Shifting s start from from was was 0
shifting_none fits = record { moving = moving_none fits; enough = λ n whole p l. omega (arith, whole p l) }

-- where bit 63 was 0 so far, nothing is to be remembered of it
pub shifting_clear : {s : List ℕ} {start from j : ℕ} {was is : List ℕ} (v : ℕ) → v < 9223372036854775808 → Shifting s start from j was is (bit_or 0 v) → Shifting s start from j was is 0
shifting_clear v n x = record { moving = x.moving; enough = λ z. x.enough (omega (arith, or_add_and 0 v, n)) }

module _ {s : List ℕ} {h : Header} {from to : ℕ} {was : List ℕ} (can : Movable s h from to was) (j : ℕ) (l : j < to) {is : List ℕ} {r : ℕ} (x : Shifting s h.arcstart from j was is r)
    {c : ℕ} (y : Signed (change_at s h.arcstart j) c) (v : ℕ) (fits : v < 18446744073709551616) (e : v ≡ (get_or is (place_at s h.arcstart j) 0 + c) % 2 ^ 64) where
  next : Moving 0 1 s h.arcstart from (j + 1) was (set is (place_at s h.arcstart j) v)
  next = moving_more can j l x.moving v fits (add-turns can j l y x.moving v e)

  -- bit 63 of the entry tells that the input did not take more than the tokens
  still : bit_or r v < 9223372036854775808 → Whole was → (p : ℕ) → p < length was → Dec ((arc_at s (h.arcstart + 8 * j)).direction ≡ 0) → Dec (place_at s h.arcstart j ≡ p)
      → 9223372036854775808 + sum_on 0 s h.arcstart p (j + 1) ≤ lift_at was p + sum_on 0 s h.arcstart p from
  still n whole p m (yes z) (yes f) =
      let q = place_at s h.arcstart j in
      subst (λ (k : ℕ). 9223372036854775808 + sum_on 0 s h.arcstart k (j + 1) ≤ lift_at was k + sum_on 0 s h.arcstart k from) f
      (omega (
        arith,
        next.moved.at q (place-known can j l),
        ap lift (get_or-set_same is q v 0 (omega (arith, place-known can j l, x.moving.moved.long))),
        can.inputs j q x.moving.rising l z,
        all-now r v n,
      ))
  still n whole p m (yes z) (no f) =
      omega (arith, x.enough (all-was r v n) whole p m, sum_next 0 s h.arcstart p j, share-elsewhere (arc_at s (h.arcstart + 8 * j)) 0 p f)
  still n whole p m (no z) f =
      omega (arith, x.enough (all-was r v n) whole p m, sum_next 0 s h.arcstart p j, share-against (arc_at s (h.arcstart + 8 * j)) 0 p z)

  shifting_next : Shifting s h.arcstart from (j + 1) was (set is (place_at s h.arcstart j) v) (bit_or r v)
  shifting_next = record {
    moving = next;
    enough = λ n whole p m. still n whole p m (ℕ_discrete (arc_at s (h.arcstart + 8 * j)).direction 0) (ℕ_discrete (place_at s h.arcstart j) p);
  }

module _ {s : List ℕ} {h : Header} {from to : ℕ} {was : List ℕ} (can : Movable s h from to was) (j : ℕ) (l : j < to) {is : List ℕ} {r : ℕ} (x : Shifting s h.arcstart from j was is r) {c : ℕ} (y : Signed (change_at s h.arcstart j) c) where
  pub shifting_more : {p : ℕ} → p ≡ place_at s h.arcstart j
      → Shifting s h.arcstart from (j + 1) was (set is p ((get_or is p 0 + c) % 18446744073709551616)) (bit_or r ((get_or is p 0 + c) % 18446744073709551616))
  shifting_more f =
      subst (λ (k : ℕ). Shifting s h.arcstart from (j + 1) was (set is k ((get_or is k 0 + c) % 18446744073709551616)) (bit_or r ((get_or is k 0 + c) % 18446744073709551616))) (sym f)
      (shifting_next can j l x y ((get_or is (place_at s h.arcstart j) 0 + c) % 18446744073709551616) (omega arith) refl)

-- ---- the same with the entry v of p in hand, whatever m has there

pub record Holding (s : List ℕ) (start from j : ℕ) (was m : List ℕ) (p v r : ℕ) : Type 0 where
  pub known : p < length was
  pub shifting : Shifting s start from j was (set m p v) r

pub holding_none : {s : List ℕ} {start from : ℕ} {was : List ℕ} {p : ℕ} → p < length was → ((p : ℕ) → get_or was p 0 < 18446744073709551616) → Holding s start from from was was p (get_or was p 0) 0
holding_none {s} {start} {from} {was} {p} l fits = record { known = l; shifting = subst (λ (m : List ℕ). Shifting s start from from was m 0) (sym (set-get_or was p 0)) (shifting_none fits) }

module _ {s : List ℕ} {start from j : ℕ} {was m : List ℕ} {p v r : ℕ} (x : Holding s start from j was m p v r) where
  pub holding_long : length m ≡ length was
  holding_long = sym (length-set m p v) ∙ x.shifting.moving.moved.long

  -- it stays in hand, or it is put down and that of q is taken
  module _ {m' : List ℕ} {p' v' : ℕ} where
    pub holding_still : m' ≡ m → p' ≡ p → v' ≡ v → Holding s start from j was m' p' v' r
    holding_still e f g = rw (e, f, g) x

    pub holding_other : {q : ℕ} → q < length was → m' ≡ set m p v → p' ≡ q → v' ≡ get_or (set m p v) q 0 → Holding s start from j was m' p' v' r
    holding_other {q} l e f g = record {
      known = omega (arith, f, l);
      shifting =
          let same : set m' p' v' ≡ set m p v = rw (e, f, g) (set-get_or (set m p v) q 0) in
          subst (λ (k : List ℕ). Shifting s start from j was k r) (sym same) x.shifting;
    }

-- one arc more at p
pub holding_more : {s : List ℕ} {h : Header} {from to : ℕ} {was : List ℕ} → Movable s h from to was → {j : ℕ} → j < to → {m : List ℕ} {p v r : ℕ} → Holding s h.arcstart from j was m p v r
    → {c : ℕ} → Signed (change_at s h.arcstart j) c → p ≡ place_at s h.arcstart j → Holding s h.arcstart from (j + 1) was m p ((v + c) % 18446744073709551616) (bit_or r ((v + c) % 18446744073709551616))
holding_more {s} {h} {from} {to} {was} can {j} l {m} {p} {v} {r} x {c} y f = record {
  known = x.known;
  shifting =
      let held : get_or (set m p v) p 0 ≡ v = get_or-set_same m p v 0 (omega (arith, x.known, holding_long x)) in
      subst (λ (u : ℕ). Shifting s h.arcstart from (j + 1) was (set m p ((u + c) % 18446744073709551616)) (bit_or r ((u + c) % 18446744073709551616))) held
      (subst (λ (k : List ℕ). Shifting s h.arcstart from (j + 1) was k (bit_or r ((get_or (set m p v) p 0 + c) % 18446744073709551616))) (set-set m p v ((get_or (set m p v) p 0 + c) % 18446744073709551616))
      (shifting_more can j l x.shifting y f));
}
