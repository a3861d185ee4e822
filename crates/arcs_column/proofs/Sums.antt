-- Laws of a column of sums.
use Prim.Native.Nat.{ℕ, zero, suc, ◌+◌, ◌*◌, ◌-◌, ◌≤◌, ◌<◌}
use mathlib.Core.Path.{◌≡◌, refl, sym, ap, ◌∙◌, subst}
use mathlib.Core.List.{List}
use native.Mathlib.Omega.{arith}
use native.Mathlib.Decide.{ℕ_discrete}
use lib.ListN.{length, get_or, set, length-set}
use lib.Seq.{get_or-set_same, get_or-set_other}
use borrow.Author.Tests.{eq-eqb, ne_eqb}
use Rattle.file_arcs.specs.Layout.{arc_at}
use Rattle.net.specs.declared.Arc.{Arc}
use Rattle.arcs_column.specs.Gain

pub sum_next : (s : List ℕ) (start p j : ℕ) → Gain.sum_to s start p (j + 1) ≡ Gain.sum_to s start p j + Gain.part p (arc_at s (start + 8 * j))
unfolding Gain.sum_to
sum_next s start p j = let e : j + 1 ≡ suc j = omega arith in rw e

pub part-here : (a : Arc) (p : ℕ) → a.place ≡ p → Gain.part p a ≡ a.weight
part-here a p e = rw (eq-eqb a.place p e)

pub part-other : (a : Arc) (p : ℕ) → (a.place ≡ p → ⊥) → Gain.part p a ≡ 0
part-other a p e = rw (ne_eqb a.place p e)

-- sums do not fall
sum-more_by : (s : List ℕ) (start p j k : ℕ) → Gain.sum_to s start p j ≤ Gain.sum_to s start p (k + j)
unfolding Gain.sum_to
sum-more_by s start p j zero = let e : 0 + j ≡ j = omega arith in rw e (omega arith)
sum-more_by s start p j (suc k) =
    let e : suc k + j ≡ suc (k + j) = omega arith in
    rw e (omega (arith, sum-more_by s start p j k))

pub sum_more : (s : List ℕ) (start p j k : ℕ) → j ≤ k → Gain.sum_to s start p j ≤ Gain.sum_to s start p k
sum_more s start p j k l = subst (λ (n : ℕ). Gain.sum_to s start p j ≤ Gain.sum_to s start p n) (let e : k - j + j ≡ k = omega arith in e) (sum-more_by s start p j (k - j))

-- one arc more
module _ (s : List ℕ) (start from j : ℕ) (was is : List ℕ) (a : Arc) (e : a ≡ arc_at s (start + 8 * j)) (inside : a.place < length was) where
  same_part : (p : ℕ) → Gain.part p (arc_at s (start + 8 * j)) ≡ Gain.part p a
  same_part p = ap (Gain.part p) (sym e)

  -- what arc j wants is there
  pub enough : (to : ℕ) → j < to → Gain.Takes s start from j was is → ((p : ℕ) → Gain.sum_to s start p to ≤ get_or was p 0 + Gain.sum_to s start p from) → a.weight ≤ get_or is a.place 0
  enough to l x room =
      omega (arith, x.at a.place, room a.place, sum_next s start a.place j, same_part a.place, part-here a a.place refl, sum_more s start a.place (j + 1) to (omega arith))

  pub takes_more : Gain.Takes s start from j was is → a.weight ≤ get_or is a.place 0 → Gain.Takes s start from (j + 1) was (set is a.place (get_or is a.place 0 - a.weight))
  takes_more x h = record {
    long = length-set is a.place _ ∙ x.long;
    at = λ p. go p (ℕ_discrete p a.place);
  }
    where
      go : (p : ℕ) → Dec (p ≡ a.place) → get_or (set is a.place (get_or is a.place 0 - a.weight)) p 0 + Gain.sum_to s start p (j + 1) ≡ get_or was p 0 + Gain.sum_to s start p from
      go p (yes q) =
          subst (λ (p : ℕ). get_or (set is a.place (get_or is a.place 0 - a.weight)) p 0 + Gain.sum_to s start p (j + 1) ≡ get_or was p 0 + Gain.sum_to s start p from) (sym q)
          (omega (arith, h, get_or-set_same is a.place (get_or is a.place 0 - a.weight) 0 (omega (arith, x.long)), x.at a.place, sum_next s start a.place j, same_part a.place, part-here a a.place refl))
      go p (no q) =
          omega (arith, get_or-set_other is a.place p (get_or is a.place 0 - a.weight) 0 q, x.at p, sum_next s start p j, same_part p, part-other a p (λ r. q (sym r)))

  -- what arc j brings fits, in entries of any width
  pub fits : {limit : ℕ} (to : ℕ) → j < to → Gain.Gives s start from j was is → ((p : ℕ) → get_or was p 0 + Gain.sum_to s start p to < limit + Gain.sum_to s start p from) → get_or is a.place 0 + a.weight < limit
  fits {limit} to l x room =
      omega (arith, x.at a.place inside, room a.place, sum_next s start a.place j, same_part a.place, part-here a a.place refl, sum_more s start a.place (j + 1) to (omega arith))

  pub gives_more : Gain.Gives s start from j was is → Gain.Gives s start from (j + 1) was (set is a.place (get_or is a.place 0 + a.weight))
  gives_more x = record {
    long = length-set is a.place _ ∙ x.long;
    at = λ p l. go p l (ℕ_discrete p a.place);
  }
    where
      go : (p : ℕ) → p < length was → Dec (p ≡ a.place) → get_or (set is a.place (get_or is a.place 0 + a.weight)) p 0 + Gain.sum_to s start p from ≡ get_or was p 0 + Gain.sum_to s start p (j + 1)
      go p l (yes q) =
          subst (λ (p : ℕ). get_or (set is a.place (get_or is a.place 0 + a.weight)) p 0 + Gain.sum_to s start p from ≡ get_or was p 0 + Gain.sum_to s start p (j + 1)) (sym q)
          (omega (arith, get_or-set_same is a.place (get_or is a.place 0 + a.weight) 0 (omega (arith, x.long)), x.at a.place inside, sum_next s start a.place j, same_part a.place, part-here a a.place refl))
      go p l (no q) =
          omega (arith, get_or-set_other is a.place p (get_or is a.place 0 + a.weight) 0 q, x.at p l, sum_next s start p j, same_part p, part-other a p (λ r. q (sym r)))
