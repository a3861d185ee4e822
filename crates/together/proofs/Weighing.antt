-- The fewest times that a place allows, group by group of parallel arcs.
use Prim.Native.Nat.{ℕ, suc, ◌+◌, ◌-◌, ◌*◌, ◌/◌, min, ◌≤◌, ◌<◌}
use mathlib.Core.List.{List}
use mathlib.Core.Path.{◌≡◌, refl, sym, ap, ap₂, subst, ◌∙◌}
use native.Mathlib.Omega.{arith}
use native.Mathlib.Decide.{dec_lt, ℕ_discrete}
use native.Mathlib.Nat.{mul-le-mul_left, mul-le-mul_right, div-le_self, div-mul-le_self, lt-div-mul-add}
use lib.ListN.{length, get_or}
use Rattle.net.specs.declared.Arc.{Arc}
use Rattle.file_arcs.specs.Layout.{arc_at}
use Rattle.arcs_column.specs.Ways.{place_at}
use Rattle.arcs_groups.specs.Groups.{weight_at, GroupEnd, run_weight}
use Rattle.arcs_groups.proofs.Groups.{run-one}
use Rattle.together.specs.Inputs.{drawn, OneWay}
use Rattle.together.proofs.Inputs.{drawn-none, drawn-more, at_one, at_none}

-- k times what the arcs from..j take is in m, and not one time more; arc j opens a group. Before the first arc, m has no more than k on any place.
pub record Weighed (s : List ℕ) (start from to : ℕ) (m : List ℕ) (j k : ℕ) : Type 0 where
  pub begun : from ≤ j
  pub within : j ≤ to
  pub opens : j < to → (i : ℕ) → from ≤ i → i < j → place_at s start i < place_at s start j
  pub fits : (p : ℕ) → k * drawn s start from j p ≤ get_or m p 0
  pub untouched : j ≡ from → (p : ℕ) → get_or m p 0 ≤ k
  pub no_more : from < j → (p : ℕ) × (p < length m) × (get_or m p 0 < suc k * drawn s start from j p)

module _ {s : List ℕ} {start from to : ℕ} {m : List ℕ} (o : OneWay s start from to (length m)) where
  module _ {j k : ℕ} (w : Weighed s start from to m j k) (l : j < to) {e : ℕ} (g : GroupEnd s start j to e) where
    -- the place of the group
    abbrev p : ℕ
    p = place_at s start j

    after : j < e
    after = g.after

    at_p : (i : ℕ) → j ≤ i → i < e → place_at s start i ≡ p
    at_p i a b = (g.same i a b).place

    before-p : (i : ℕ) → from ≤ i → i < j → place_at s start i ≡ p → ⊥
    before-p i a b q = omega (arith, w.opens l i a b)

    -- what the arcs up to the group's end take there is the group's weight; elsewhere nothing is added
    weight_is : drawn s start from e p ≡ run_weight s start j (e - j)
    weight_is =
        let d = after in
        omega (arith, drawn-none s start from p, at_none s start from p from j (omega arith) w.begun before-p, at_one s start from p j e w.begun (omega arith) at_p)

    others_same : (q : ℕ) → (p ≡ q → ⊥) → drawn s start from e q ≡ drawn s start from j q
    others_same q n = let d = after in at_none s start from q j e w.begun (omega arith) (λ i a b r. n (sym (at_p i a b) ∙ r))

    -- and that has the arc's own
    pub own-share : weight_at s start j ≤ run_weight s start j (e - j)
    own-share =
        let d = after in
        omega (arith, weight_is, drawn-more s start from (j + 1) e p (omega arith), at_one s start from p j (j + 1) w.begun (omega arith) (λ i a b. at_p i a (omega arith)), run-one s start j)

    -- the next arc is at a higher place
    opens_next : e < to → (i : ℕ) → from ≤ i → i < e → place_at s start i < place_at s start e
    opens_next u i a b =
        let d = after in
        let b₁ = w.begun in
        omega (arith, above (ℕ_discrete (place_at s start e) p), o.order i (e - 1) a (omega arith) (omega arith), at_p (e - 1) (omega arith) (omega arith))
      where
        above : Dec (place_at s start e ≡ p) → p < place_at s start e
        above (yes q) = absurd (g.other u (record {
          transition = o.transitions e (omega (arith, w.begun, after)) u ∙ sym (o.transitions j w.begun l);
          direction = o.directions e (omega (arith, w.begun, after)) u ∙ sym (o.directions j w.begun l);
          place = q;
        }))
        above (no q) = omega (arith, q, o.order j e w.begun (omega (arith, after)) u)

    -- the group allows so many times
    module _ {here : ℕ} (q : here ≡ get_or m p 0 / run_weight s start j (e - j)) where
      here_fits : here * drawn s start from e p ≤ get_or m p 0
      here_fits = rw (q, weight_is) (div-mul-le_self (get_or m p 0) (run_weight s start j (e - j)))

      here_no_more : get_or m p 0 < suc here * drawn s start from e p
      here_no_more = rw (q, weight_is) (omega (arith, lt-div-mul-add {a = get_or m p 0} {b = run_weight s start j (e - j)} (let z = own-share in let y = o.weights j w.begun l in omega arith)))

      fits_next : (r : ℕ) → Dec (p ≡ r) → min k here * drawn s start from e r ≤ get_or m r 0
      fits_next r (yes z) =
          subst (λ (r : ℕ). min k here * drawn s start from e r ≤ get_or m r 0) z
          (omega (arith, here_fits, mul-le-mul_right (drawn s start from e p) (let u : min k here ≤ here = omega arith in u)))
      fits_next r (no z) =
          omega (
            arith,
            w.fits r,
            ap (λ (n : ℕ). min k here * n) (others_same r z),
            mul-le-mul_right (drawn s start from j r) (let u : min k here ≤ k = omega arith in u),
          )

      stops : Dec (k < here) → (r : ℕ) × (r < length m) × (get_or m r 0 < suc (min k here) * drawn s start from e r)
      stops (yes z) =
          let started : from < j = started-by (ℕ_discrete j from) in
          let x = w.no_more started in
          let u : min k here ≡ k = omega arith in
          rw u (x.0, x.1, omega (arith, x.2, mul-le-mul_left (suc k) (drawn-more s start from j e x.0 (omega (arith, after)))))
        where
          started-by : Dec (j ≡ from) → from < j
          started-by (yes y) = absurd (omega (arith, q, w.untouched y p, div-le_self (get_or m p 0) (run_weight s start j (e - j))))
          started-by (no y) = omega (arith, w.begun)
      stops (no z) = let u : min k here ≡ here = omega arith in rw u (p, o.run.places j l, here_no_more)

      pub weighed_next : Weighed s start from to m e (min k here)
      weighed_next = record {
        begun = omega (arith, w.begun, after);
        within = g.within;
        opens = opens_next;
        fits = λ r. fits_next r (ℕ_discrete p r);
        untouched = λ z. absurd (omega (arith, z, w.begun, after));
        no_more = λ z. stops (dec_lt k here);
      }

  -- the arc that was read, and the weight of its group
  module _ {j k : ℕ} (w : Weighed s start from to m j k) (l : j < to) (a : Arc) (is : a ≡ arc_at s (start + 8 * j)) where
    pub has_weight : 1 ≤ a.weight
    has_weight = subst (λ (b : Arc). 1 ≤ b.weight) (sym is) (o.weights j w.begun l)

    pub shared : {e : ℕ} → GroupEnd s start j to e → a.weight ≤ run_weight s start j (e - j)
    shared {e} g = subst (λ (b : Arc). b.weight ≤ run_weight s start j (e - j)) (sym is) (own-share w l g)

    pub weigh : {e weight k' : ℕ} → GroupEnd s start j to e → weight ≡ run_weight s start j (e - j) → k' ≡ min k (get_or m a.place 0 / weight) → Weighed s start from to m e k'
    weigh {e} {weight} g ws r =
        let same = ap₂ (λ (p n : ℕ). min k (get_or m p 0 / n)) (ap (λ (b : Arc). b.place) is) ws in
        subst (λ (n : ℕ). Weighed s start from to m e n) (sym (r ∙ same)) (weighed_next w l g refl)
