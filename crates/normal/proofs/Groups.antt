-- Joined arcs, group by group: what one turn of a loop over groups does.
use Prim.Native.Nat.{ℕ, zero, suc, ◌+◌, ◌-◌, ◌*◌, ◌≤◌, ◌<◌}
use mathlib.Core.Bool.{true, false}
use mathlib.Core.List.{List, [], ◌∷◌}
use mathlib.Core.Path.{◌≡◌, refl, sym, ap, subst, ◌∙◌}
use native.Mathlib.Omega.{arith}
use native.Mathlib.Decide.{dec_lt}
use borrow.Author.Tests.{eq-eqb}
use Rattle.net.specs.Net.{joins}
use Rattle.net.specs.Normal.{heavier, joined_to, joined}
use Rattle.net.specs.declared.Arc.{Arc}
use Rattle.net.proofs.Numbers.{by_cases}
use Rattle.net.proofs.Normal.{Parallel as Alike, joins-parallel, joined-one, joined-more}
use Rattle.file_arcs.specs.Layout.{arc_at, arcs_from}
use Rattle.file_arcs.proofs.Laws.{arcs_cons, arcs_none}
use Rattle.arcs_groups.specs.Groups.{Parallel, GroupEnd, weight_at, run_weight}
use Rattle.arcs_groups.proofs.Groups.{run-one}

-- ---- the first of joined arcs is parallel to the first of the arcs

pub record Head (a : Arc) (l : List Arc) : Type 0 where
  pub arc : Arc
  pub rest : List Arc
  pub is : l ≡ arc ∷ rest
  pub same : Alike a arc

head-to : (a : Arc) (l : List Arc) → Head a (joined_to a l)
unfolding joined_to
head-to a [] = record { arc = a; rest = []; is = refl; same = record { transition = refl; direction = refl; place = refl } }
head-to a (b ∷ rest) =
    by_cases (joins a.direction a.place a.transition b)
    (λ e. record { arc = heavier a b.weight; rest = rest; is = joined-one a b rest e; same = record { transition = refl; direction = refl; place = refl } })
    (λ e. record { arc = a; rest = b ∷ rest; is = joined-more a b rest e; same = record { transition = refl; direction = refl; place = refl } })

module _ (s : List ℕ) (start : ℕ) where
  -- the weights of arcs from j on, by the first of them
  run-first : (j n : ℕ) → run_weight s start j (suc n) ≡ weight_at s start j + run_weight s start (j + 1) n
  unfolding run_weight
  run-first j zero = let z : j + 0 ≡ j = omega arith in omega (arith, ap (weight_at s start) z)
  run-first j (suc n) = let z : j + suc n ≡ j + 1 + n = omega arith in omega (arith, run-first j n, ap (weight_at s start) z)

  -- the arcs from j to e as one
  abbrev pub group_arc : ℕ → ℕ → Arc
  group_arc j e =
      record {
        transition = (arc_at s (start + 8 * j)).transition;
        direction = (arc_at s (start + 8 * j)).direction;
        place = (arc_at s (start + 8 * j)).place;
        weight = run_weight s start j (e - j);
      }

  module _ (n : ℕ) where
    -- the arcs from j on, joined
    abbrev pub joined_from : ℕ → List Arc
    joined_from j = joined (arcs_from s (start + 8 * j) (n - j))

    joined-next : (j : ℕ) → j < n → joined_from j ≡ joined_to (arc_at s (start + 8 * j)) (joined_from (j + 1))
    unfolding joined
    joined-next j l =
        let after : start + 8 * j + 8 ≡ start + 8 * (j + 1) = omega arith in
        let less : n - j - 1 ≡ n - (j + 1) = omega arith in
        ap joined (arcs_cons s (start + 8 * j) (n - j) (omega arith)) ∙ (λ i. joined_to (arc_at s (start + 8 * j)) (joined (arcs_from s (after i) (less i))))

    pub joined-none : (j : ℕ) → n ≤ j → joined_from j ≡ []
    unfolding joined
    joined-none j l = ap joined (arcs_none s (start + 8 * j) (n - j) (omega arith))

    -- the last arc of a group stays as it is
    last_arc : (j : ℕ) → j < n → (j + 1 < n → Parallel s start j (j + 1) → ⊥) → joined_from j ≡ arc_at s (start + 8 * j) ∷ joined_from (j + 1)
    unfolding joined_to
    last_arc j l other = joined-next j l ∙ go (dec_lt (j + 1) n)
      where
        a : Arc
        a = arc_at s (start + 8 * j)

        go : Dec (j + 1 < n) → joined_to a (joined_from (j + 1)) ≡ a ∷ joined_from (j + 1)
        go (no q) = let e = joined-none (j + 1) (omega arith) in ap (joined_to a) e ∙ ap (λ (r : List Arc). a ∷ r) (sym e)
        go (yes q) =
            let next = joined-next (j + 1) q in
            let h = head-to (arc_at s (start + 8 * (j + 1))) (joined_from (j + 1 + 1)) in
            let is = next ∙ h.is in
            let apart : joins a.direction a.place a.transition h.arc ≡ false =
            by_cases (joins a.direction a.place a.transition h.arc)
            (λ e. let x = joins-parallel a h.arc e in
            absurd (other q (record { transition = h.same.transition ∙ sym x.transition; direction = h.same.direction ∙ sym x.direction; place = h.same.place ∙ sym x.place })))
            (λ e. e) in
            ap (joined_to a) is ∙ joined-more a h.arc h.rest apart ∙ ap (λ (r : List Arc). a ∷ r) (sym is)

    -- k arcs more than one
    group_by : (k j : ℕ) → j + suc k ≤ n → ((i : ℕ) → j ≤ i → i < j + suc k → Parallel s start j i) → (j + suc k < n → Parallel s start j (j + suc k) → ⊥)
        → joined_from j ≡ group_arc j (j + suc k) ∷ joined_from (j + suc k)
    group_by zero j l same other =
        let w = sym (run-one s start j) in
        last_arc j (omega arith) other ∙ (λ i. record { transition = (arc_at s (start + 8 * j)).transition; direction = (arc_at s (start + 8 * j)).direction; place = (arc_at s (start + 8 * j)).place; weight = w i } ∷ joined_from (j + 1))
    group_by (suc k) j l same other =
        let a = arc_at s (start + 8 * j) in
        let e : ℕ = j + suc (suc k) in
        let e≡ : j + 1 + suc k ≡ e = omega arith in
        let next = same (j + 1) (omega arith) (omega arith) in
        let rest = group_by k (j + 1) (omega arith)
        (λ i u v. let x = same i (omega arith) (omega arith) in record { transition = x.transition ∙ sym next.transition; direction = x.direction ∙ sym next.direction; place = x.place ∙ sym next.place })
        (λ u x. other (omega arith) (subst (Parallel s start j) e≡ (record { transition = x.transition ∙ next.transition; direction = x.direction ∙ next.direction; place = x.place ∙ next.place }))) in
        let g = group_arc (j + 1) (j + 1 + suc k) in
        let joins-g : joins a.direction a.place a.transition g ≡ true = rw (eq-eqb g.transition a.transition next.transition, eq-eqb g.direction a.direction next.direction, eq-eqb g.place a.place next.place) in
        let n₁ : j + 1 + suc k - (j + 1) ≡ suc k = omega arith in
        let n₂ : e - j ≡ suc (suc k) = omega arith in
        let w : a.weight + g.weight ≡ run_weight s start j (e - j) = ap (λ (m : ℕ). a.weight + run_weight s start (j + 1) m) n₁ ∙ sym (run-first j (suc k)) ∙ ap (run_weight s start j) (sym n₂) in
        joined-next j (omega arith) ∙ ap (joined_to a) rest ∙ joined-one a g (joined_from (j + 1 + suc k)) joins-g
        ∙ (λ i. record { transition = a.transition; direction = a.direction; place = a.place; weight = w i } ∷ joined_from (e≡ i))

    pub group_joined : (j e : ℕ) → GroupEnd s start j n e → joined_from j ≡ group_arc j e ∷ joined_from e
    group_joined j e g =
        let u = g.after in
        let v = g.within in
        let z : j + suc (e - j - 1) ≡ e = omega arith in
        subst (λ (x : ℕ). joined_from j ≡ group_arc j x ∷ joined_from x) z
        (group_by (e - j - 1) j (omega arith) (λ i a b. g.same i a (omega arith)) (λ l x. g.other (omega arith) (subst (Parallel s start j) z x)))
