-- Arcs as they are read from the file: the inputs of a transition stand first, then its outputs.
use Rattle.std.proofs.Common.{◌≡◌, ℕ, ◌+◌, ◌-◌, ◌*◌, ◌%◌, ◌<◌, ◌≤◌, List, get_or, set, ap, ◌∙◌, arith}
use lib.Bits.{bit_or}
use Rattle.net.specs.declared.Arc.{Arc}
use Rattle.file_arcs.specs.Layout.{arc_at}
use Rattle.file_header.specs.declared.Header.{Header}
use Rattle.arcs_column.specs.Ways.{place_at, direction_at}
use Rattle.arcs_column.proofs.Ways.{sum_next, sum-rises, share-here, share-against}
use Rattle.file.proofs.Rows.{good_at}
use Rattle.replay_fast.specs.Moves.{Movable}
use Rattle.replay_fast.proofs.Signs.{signed_takes, signed_gives}
use Rattle.replay_fast.proofs.Moving.{read_weighs, read_change, Shifting, shifting_more}

-- after an output there is no input
pub outputs_after : {s : List ℕ} {h : Header} {from to : ℕ} {was : List ℕ} → Movable s h from to was → (i : ℕ) → from ≤ i → i < to → (direction_at s h.arcstart i ≡ 0 → ⊥)
    → (k : ℕ) → i ≤ k → k < to → direction_at s h.arcstart k ≡ 0 → ⊥
outputs_after {s} {h} {from} {to} can i a b out k c d in-arc =
    let start = h.arcstart in
    let q = place_at s start i in
    let good = good_at s h can.sound i (omega (arith, b, can.within)) in
    let one : direction_at s start i ≡ 1 = omega (arith, good.direction, out) in
    absurd (omega (
      arith,
      can.inputs k q (omega (arith, a, c)) d in-arc,
      sum_next 1 s start q i,
      share-here (arc_at s (start + 8 * i)) 1 one,
      good.weight,
      sum-rises 1 s start q from i a,
      sum-rises 1 s start q (i + 1) (k + 1) (omega (arith, c)),
    ))

module _ {s : List ℕ} {h : Header} {from to : ℕ} {was : List ℕ} (can : Movable s h from to was) (j : ℕ) (l : j < to) {is : List ℕ} {r : ℕ} (x : Shifting s h.arcstart from j was is r)
    {a : Arc} (e : a ≡ arc_at s (h.arcstart + 8 * j)) where
  -- an input takes its weight
  pub shifting_takes : a.direction ≡ 0 → Shifting s h.arcstart from (j + 1) was (set is a.place ((get_or is a.place 0 + (18446744073709551616 - a.weight)) % 18446744073709551616))
      (bit_or r ((get_or is a.place 0 + (18446744073709551616 - a.weight)) % 18446744073709551616))
  shifting_takes z =
      let w = read_weighs can j l e in
      let y = read_change can j l e (signed_takes a.direction a.weight w z (18446744073709551616 - a.weight) (omega (arith, w.some)) (omega (arith, w.some, w.below))) in
      shifting_more can j l x y (ap (λ (b : Arc). b.place) e)

  -- an output gives it, and no entry goes below 0 by it
  pub shifting_gives : (a.direction ≡ 0 → ⊥) → Shifting s h.arcstart from (j + 1) was (set is a.place ((get_or is a.place 0 + a.weight) % 18446744073709551616)) r
  shifting_gives z =
      let y = read_change can j l e (signed_gives a.direction a.weight (read_weighs can j l e) z) in
      let here : direction_at s h.arcstart j ≡ 0 → ⊥ = λ q. z (ap (λ (b : Arc). b.direction) e ∙ q) in
      record {
        moving = (shifting_more can j l x y (ap (λ (b : Arc). b.place) e)).moving;
        enough = λ n whole p m. omega (arith, x.enough n whole p m, sum_next 0 s h.arcstart p j, share-against (arc_at s (h.arcstart + 8 * j)) 0 p here);
      }
