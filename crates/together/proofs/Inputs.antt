-- Laws of what a run of arcs takes from each place.
use Prim.Native.Nat.{ℕ, zero, suc, ◌+◌, ◌-◌, ◌*◌, ◌≤◌, ◌<◌}
use mathlib.Core.List.{List}
use mathlib.Core.Path.{◌≡◌, sym, ap, subst, ◌∙◌}
use native.Mathlib.Omega.{arith}
use native.Mathlib.Decide.{ℕ_discrete}
use native.Mathlib.Nat.{mul-add, mul-le-mul_left}
use lib.ListN.{length, get_or, set, length-set}
use lib.Seq.{get_or-set_same, get_or-set_other}
use Rattle.net.specs.declared.Arc.{Arc}
use Rattle.file_arcs.specs.Layout.{arc_at}
use Rattle.arcs_column.specs.Gain.{part}
use Rattle.arcs_column.specs.Ways.{place_at}
use Rattle.arcs_column.proofs.Sums.{sum_next, sum_more, part-here, part-other}
use Rattle.arcs_groups.specs.Groups.{weight_at, run_weight}
use Rattle.together.specs.Inputs

module _ (s : List ℕ) (start from : ℕ) where
  -- what the arcs from..j take from p
  abbrev Taken : ℕ → ℕ → ℕ
  Taken j p = Inputs.drawn s start from j p

  pub drawn-none : (p : ℕ) → Taken from p ≡ 0
  drawn-none p = omega arith

  pub drawn-next : (j p : ℕ) → from ≤ j → Taken (j + 1) p ≡ Taken j p + part p (arc_at s (start + 8 * j))
  drawn-next j p l = omega (arith, sum_next s start p j, sum_more s start p from j l)

  pub drawn-more : (j k p : ℕ) → j ≤ k → Taken j p ≤ Taken k p
  drawn-more j k p l = omega (arith, sum_more s start p j k l)

  -- ---- k times

  pub drawn-here : (k j p : ℕ) → from ≤ j → place_at s start j ≡ p → k * Taken (j + 1) p ≡ k * Taken j p + k * weight_at s start j
  drawn-here k j p l e = ap (λ (n : ℕ). k * n) (drawn-next j p l ∙ ap (λ (n : ℕ). Taken j p + n) (part-here (arc_at s (start + 8 * j)) p e)) ∙ mul-add k (Taken j p) (weight_at s start j)

  pub drawn-other : (j p : ℕ) → from ≤ j → (place_at s start j ≡ p → ⊥) → Taken (j + 1) p ≡ Taken j p
  drawn-other j p l n = omega (arith, drawn-next j p l, part-other (arc_at s (start + 8 * j)) p n)

  -- arcs that are all at p, and arcs of which none is
  all-at : (p j n : ℕ) → from ≤ j → ((i : ℕ) → j ≤ i → i < j + n → place_at s start i ≡ p) → Taken (j + n) p ≡ Taken j p + run_weight s start j n
  unfolding run_weight
  all-at p j zero l f = let e : j + 0 ≡ j = omega arith in rw e (omega arith)
  all-at p j (suc n) l f =
      let e : j + suc n ≡ j + n + 1 = omega arith in
      rw e (omega (arith, drawn-next (j + n) p (omega arith), part-here (arc_at s (start + 8 * (j + n))) p (f (j + n) (omega arith) (omega arith)), all-at p j n l (λ i a b. f i a (omega arith))))

  none_at : (p j n : ℕ) → from ≤ j → ((i : ℕ) → j ≤ i → i < j + n → place_at s start i ≡ p → ⊥) → Taken (j + n) p ≡ Taken j p
  none_at p j zero l f = let e : j + 0 ≡ j = omega arith in rw e (omega arith)
  none_at p j (suc n) l f =
      let e : j + suc n ≡ j + n + 1 = omega arith in
      rw e (omega (arith, drawn-other (j + n) p (omega arith) (f (j + n) (omega arith) (omega arith)), none_at p j n l (λ i a b. f i a (omega arith))))

  pub at_one : (p j e : ℕ) → from ≤ j → j ≤ e → ((i : ℕ) → j ≤ i → i < e → place_at s start i ≡ p) → Taken e p ≡ Taken j p + run_weight s start j (e - j)
  at_one p j e l u f = let q : j + (e - j) ≡ e = omega arith in rw q at (all-at p j (e - j) l (λ i a b. f i a (omega arith)))

  pub at_none : (p j e : ℕ) → from ≤ j → j ≤ e → ((i : ℕ) → j ≤ i → i < e → place_at s start i ≡ p → ⊥) → Taken e p ≡ Taken j p
  at_none p j e l u f = let q : j + (e - j) ≡ e = omega arith in rw q at (none_at p j (e - j) l (λ i a b. f i a (omega arith)))

-- ---- the weights of arcs taken k times

pub takes_from_lem : {s : List ℕ} {start from to k : ℕ} {first was is : List ℕ} → was ≡ first → Inputs.TakesTimes s start from to k was is → Inputs.TakesTimes s start from to k first is
takes_from_lem {s} {start} {from} {to} {k} {first} {was} {is} e x = subst (λ (m : List ℕ). Inputs.TakesTimes s start from to k m is) e x

module _ {s : List ℕ} {start from j k : ℕ} {was is : List ℕ} (x : Inputs.TakesTimes s start from j k was is) (begun : from ≤ j) (a : Arc) (e : a ≡ arc_at s (start + 8 * j)) where
  here : place_at s start j ≡ a.place
  here = ap (λ (b : Arc). b.place) (sym e)

  weight : k * weight_at s start j ≡ k * a.weight
  weight = ap (λ (b : Arc). k * b.weight) (sym e)

  -- what arc j wants k times is there
  pub enough : (to : ℕ) → j < to → ((p : ℕ) → k * Inputs.drawn s start from to p ≤ get_or was p 0) → k * a.weight ≤ get_or is a.place 0
  enough to l room =
      omega (
        arith,
        x.at a.place,
        room a.place,
        weight,
        drawn-here s start from k j a.place begun here,
        mul-le-mul_left k (drawn-more s start from (j + 1) to a.place (omega arith)),
      )

  pub takes_more : a.place < length was → k * a.weight ≤ get_or is a.place 0 → Inputs.TakesTimes s start from (j + 1) k was (set is a.place (get_or is a.place 0 - k * a.weight))
  takes_more inside h = record { long = length-set is a.place _ ∙ x.long; at = λ p. go p (ℕ_discrete a.place p) }
    where
      go : (p : ℕ) → Dec (a.place ≡ p) → get_or (set is a.place (get_or is a.place 0 - k * a.weight)) p 0 + k * Inputs.drawn s start from (j + 1) p ≡ get_or was p 0
      go p (yes q) =
          subst (λ (p : ℕ). get_or (set is a.place (get_or is a.place 0 - k * a.weight)) p 0 + k * Inputs.drawn s start from (j + 1) p ≡ get_or was p 0) q
          (omega (
            arith,
            h,
            get_or-set_same is a.place (get_or is a.place 0 - k * a.weight) 0 (omega (arith, x.long)),
            x.at a.place,
            weight,
            drawn-here s start from k j a.place begun here,
          ))
      go p (no q) =
          omega (
            arith,
            get_or-set_other is a.place p (get_or is a.place 0 - k * a.weight) 0 (λ r. q (sym r)),
            x.at p,
            ap (λ (n : ℕ). k * n) (drawn-other s start from j p begun (λ r. q (sym here ∙ r))),
          )
