-- The lowest place that is short, found among the input arcs of a transition in their order.
use Prim.Native.Nat.{ℕ, ◌+◌, ◌-◌, ◌*◌, ◌<◌, ◌≤◌}
use mathlib.Core.Path.{◌≡◌, refl, ap, sym, ◌∙◌, subst}
use mathlib.Core.List.{List}
use native.Mathlib.Omega.{arith}
use native.Mathlib.Decide.{dec_lt, ℕ_discrete}
use borrow.Author.Tests.{eqb-true, eqb-false}
use lib.Dec.{eqb}
use lib.ListN.{get_or}
use Rattle.net.specs.Net.{input, weight_on, ShortAt}
use Rattle.net.proofs.Numbers.{by_cases}
use Rattle.net.specs.declared.Arc.{Arc}
use Rattle.file_arcs.specs.Layout.{arcs_from}
use Rattle.file.specs.Layout.{net_from}
use Rattle.file.specs.Facts.{Sound}
use Rattle.file_header.specs.declared.Header.{Header}
use Rattle.file_arcs.proofs.Rows.{key-le, weight_none}
use Rattle.file.proofs.Rows.{good_at}
use Rattle.arcs_starts.specs.Table.{slot_at, choose, Split}
use Rattle.replay_steps.specs.Steps.{held}
use Rattle.replay_firing.specs.Short.{arc_on, need_at, Lacking}
use Rattle.arcs_column.proofs.Shares.{share-is, share-unless, sum_next, sum_same, sum_more}
use Rattle.arcs_groups.specs.Groups.{GroupEnd, run_weight}
use Rattle.arcs_groups.proofs.Groups.{run-adds, none_after}

-- m has enough for the inputs of t before arc j, the last of which is at the place `last`, where they take `need`; the inputs are the arcs from..middle
pub record Covered (s : List ℕ) (h : Header) (t from middle : ℕ) (m : List ℕ) (j last need : ℕ) : Type 0 where
  pub sound : Sound s h
  pub first : Split s h.arcstart h.arcs (2 * t) from
  pub second : Split s h.arcstart h.arcs (2 * t + 1) middle
  pub begun : from ≤ j
  pub within : j ≤ h.arcs
  pub enough : (p : ℕ) → weight_on 0 p t (arcs_from s h.arcstart j) ≤ get_or m p 0
  pub passed : j ≤ middle
  pub at_last : from < j → last ≡ (arc_on s h (j - 1)).place
  pub so_far : need ≡ weight_on 0 last t (arcs_from s h.arcstart j)
  pub low : need ≤ 65535 * (j - from)

-- arc j, the next input of t, is at the place p, from which the arcs up to it take n: what is known where p has that many, and where it has not
pub record Weighed (s : List ℕ) (h : Header) (t from middle : ℕ) (m : List ℕ) (j p n : ℕ) : Type 0 where
  pub place : p < h.places
  pub covers : n ≤ get_or m p 0 → Covered s h t from middle m (j + 1) p n
  pub lacks : get_or m p 0 < n → Lacking s h j n (get_or m p 0)
  pub short : get_or m p 0 < n → ShortAt (net_from s h) t (held m) p (need_at s h j - get_or m p 0)

-- all that the transition of arc j takes from its place: what the arcs up to j take, and the parallel ones after it
pub whole : {s : List ℕ} {h : Header} {j need count : ℕ} → Lacking s h j need count → (e : ℕ) → GroupEnd s h.arcstart j h.arcs e
    → (need + run_weight s h.arcstart j (e - j) ≡ need_at s h j + (arc_on s h j).weight) × (need ≤ need_at s h j)
unfolding input
whole {s} {h} {j} {need} {count} c e g =
    let p = (arc_on s h j).place in
    let t = (arc_on s h j).transition in
    let up = sum_next 0 p t s h.arcstart j in
    let own = share-is 0 p t (arc_on s h j) refl c.input refl in
    let alike = run-adds 0 p t s h.arcstart j e (omega (arith, g.after)) (λ i a b.
    let x = g.same i a b in record { transition = x.transition; direction = x.direction ∙ c.input; place = x.place }) in
    let after = sum_same 0 p t s h.arcstart e h.arcs g.within (λ i a b. share-unless 0 p t (arc_on s h i) (λ x y z.
    none_after s h c.sound j h.arcs e (omega arith) g i a b (record { transition = x; direction = y ∙ sym c.input; place = z }))) in
    (omega (arith, c.so_far, up, own, alike, after), omega (arith, c.so_far, sum_more 0 p t s h.arcstart (j + 1) h.arcs (omega (arith, c.known))))

-- equal numbers of order are of the same place
same_place : (t p q r : ℕ) → 131072 * t + 65536 * 0 + p ≤ 131072 * t + 65536 * 0 + q → 131072 * t + 65536 * 0 + q ≤ 131072 * t + 65536 * 0 + r → p ≡ r → q ≡ r
same_place t p q r a b e = omega arith

none_before : (s : List ℕ) (h : Header) (t from : ℕ) → Split s h.arcstart h.arcs (2 * t) from → (p : ℕ) → weight_on 0 p t (arcs_from s h.arcstart from) ≡ 0
unfolding slot_at
none_before s h t from first p = omega (
  arith,
  weight_none 0 p t s h.arcstart,
  sum_same 0 p t s h.arcstart 0 from (omega arith) (λ i l u. share-unless 0 p t (arc_on s h i) (λ e d g. omega (arith, first.below i u))),
)

module _ {s : List ℕ} {h : Header} {t from middle : ℕ} {m : List ℕ} where
  pub covered_none : Sound s h → Split s h.arcstart h.arcs (2 * t) from → Split s h.arcstart h.arcs (2 * t + 1) middle → Covered s h t from middle m from 65536 0
  unfolding slot_at
  covered_none w first second = record {
    sound = w;
    first = first;
    second = second;
    begun = omega arith;
    within = first.within;
    enough = λ p. omega (arith, none_before s h t from first p);
    passed = go (dec_lt middle from);
    at_last = λ l. absurd (omega arith);
    so_far = sym (none_before s h t from first 65536);
    low = omega arith;
  }
    where
      go : Dec (middle < from) → from ≤ middle
      go (yes q) = absurd (omega (arith, first.below middle q, second.above middle (omega arith) (omega (arith, first.within))))
      go (no q) = omega arith

  module _ {j last need : ℕ} (c : Covered s h t from middle m j last need) where
    module _ (l : j < middle) where
      pub known : j < h.arcs
      known = omega (arith, c.second.within)

      -- the arcs from `from` on are inputs of t
      input_of : (i : ℕ) → from ≤ i → i < middle → ((arc_on s h i).direction ≡ 0) × ((arc_on s h i).transition ≡ t)
      unfolding slot_at
      input_of i a b =
          let k : i < h.arcs = omega (arith, c.second.within) in
          let d = (good_at s h c.sound i k).direction in
          (omega (arith, c.first.above i a k, c.second.below i b), omega (arith, c.first.above i a k, c.second.below i b))

      place-known : (arc_on s h j).place < h.places
      place-known = (good_at s h c.sound j known).place

      -- what the arcs before take from the place of arc j, unless it is the last place too
      none_there : ((arc_on s h j).place ≡ last → ⊥) → weight_on 0 (arc_on s h j).place t (arcs_from s h.arcstart j) ≡ 0
      none_there n = omega (
        arith,
        none_before s h t from c.first (arc_on s h j).place,
        sum_same 0 (arc_on s h j).place t s h.arcstart from j c.begun (λ i a b. share-unless 0 (arc_on s h j).place t (arc_on s h i) (λ e d g. n (there i a b g))),
      )
        where
          there : (i : ℕ) → from ≤ i → i < j → (arc_on s h i).place ≡ (arc_on s h j).place → (arc_on s h j).place ≡ last
          there i a b g =
              let x = input_of i a (omega arith) in
              let y = input_of (j - 1) (omega arith) (omega arith) in
              let z = input_of j c.begun l in
              let u = key-le s h.arcstart 0 h.arcs i (j - 1) c.sound.order (omega arith) (omega (arith, known)) in
              let v = key-le s h.arcstart 0 h.arcs (j - 1) j c.sound.order (omega arith) known in
              sym (c.at_last (omega arith) ∙ same_place t (arc_on s h i).place (arc_on s h (j - 1)).place (arc_on s h j).place
              (omega (arith, u, x.0, x.1, y.0, y.1)) (omega (arith, v, y.0, y.1, z.0, z.1)) g)

      -- a lower place has no input arc of t from j on
      lower : (r : ℕ) → r < (arc_on s h j).place → input (net_from s h) r t ≤ get_or m r 0
      unfolding input
      lower r u =
          let z = input_of j c.begun l in
          omega (
            arith,
            c.enough r,
            sum_same 0 r t s h.arcstart j h.arcs c.within
                (λ i a b. share-unless 0 r t (arc_on s h i) (λ e d p. omega (arith, key-le s h.arcstart 0 h.arcs j i c.sound.order a b, z.0, z.1))),
          )

      need-is : need_at s h j ≡ input (net_from s h) (arc_on s h j).place t
      need-is = ap (input (net_from s h) (arc_on s h j).place) (input_of j c.begun l).1

      -- arc j added: n is what the arcs up to it take from its place
      module _ (n : ℕ) (e : n ≡ choose (eqb (arc_on s h j).place last) (need + (arc_on s h j).weight) (arc_on s h j).weight) (w : (arc_on s h j).weight < 65536) where
        adds_up : n ≡ weight_on 0 (arc_on s h j).place t (arcs_from s h.arcstart (j + 1))
        adds_up =
            let z = input_of j c.begun l in
            let own = share-is 0 (arc_on s h j).place t (arc_on s h j) z.1 z.0 refl in
            by_cases (eqb (arc_on s h j).place last)
            (λ q. omega (
              arith,
              rw q at e,
              own,
              sum_next 0 (arc_on s h j).place t s h.arcstart j,
              c.so_far,
              ap (λ (k : ℕ). weight_on 0 k t (arcs_from s h.arcstart j)) (eqb-true (arc_on s h j).place last q),
            ))
            (λ q. omega (arith, rw q at e, own, sum_next 0 (arc_on s h j).place t s h.arcstart j, none_there (eqb-false (arc_on s h j).place last q)))

        low_next : n ≤ 65535 * (j + 1 - from)
        low_next =
            by_cases (eqb (arc_on s h j).place last)
            (λ q. omega (arith, rw q at e, w, c.low, c.begun))
            (λ q. omega (arith, rw q at e, w, c.begun))

        covered_next : n ≤ get_or m (arc_on s h j).place 0 → Covered s h t from middle m (j + 1) (arc_on s h j).place n
        covered_next g = record {
          sound = c.sound;
          first = c.first;
          second = c.second;
          begun = omega (arith, c.begun);
          within = omega (arith, known);
          enough = λ p. at p (ℕ_discrete p (arc_on s h j).place);
          passed = omega arith;
          at_last = λ u. let k : j ≡ j + 1 - 1 = omega arith in ap (λ (i : ℕ). (arc_on s h i).place) k;
          so_far = adds_up;
          low = low_next;
        }
          where
            at : (p : ℕ) → Dec (p ≡ (arc_on s h j).place) → weight_on 0 p t (arcs_from s h.arcstart (j + 1)) ≤ get_or m p 0
            at p (yes q) =
                subst (λ (k : ℕ). weight_on 0 k t (arcs_from s h.arcstart (j + 1)) ≤ get_or m k 0) (sym q) (omega (arith, adds_up))
            at p (no q) = omega (arith, c.enough p, sum_next 0 p t s h.arcstart j, share-unless 0 p t (arc_on s h j) (λ a b z. q (sym z)))

        lacking : get_or m (arc_on s h j).place 0 < n → Lacking s h j n (get_or m (arc_on s h j).place 0)
        lacking g =
            let z = input_of j c.begun l in
            record {
              sound = c.sound;
              known = known;
              input = z.0;
              so_far = adds_up ∙ ap (λ (x : ℕ). weight_on 0 (arc_on s h j).place x (arcs_from s h.arcstart (j + 1))) (sym z.1);
              low = omega (arith, low_next, known, c.sound.placed.arcs);
              over = g;
            }

        short_here : get_or m (arc_on s h j).place 0 < n → ShortAt (net_from s h) t (held m) (arc_on s h j).place (need_at s h j - get_or m (arc_on s h j).place 0)
        unfolding input
        short_here g =
            let more = sum_more 0 (arc_on s h j).place t s h.arcstart (j + 1) h.arcs (omega (arith, known)) in
            record { place = place-known; amount = omega (arith, need-is, adds_up, more); some = omega (arith, need-is, adds_up, more); lowest = lower }

      -- the arc that was read, and the sum that was made with it
      pub weigh : (a : Arc) → a ≡ arc_on s h j → a.weight < 65536 → (n : ℕ) → n ≡ choose (eqb a.place last) (need + a.weight) a.weight → Weighed s h t from middle m j a.place n
      weigh a is w n e =
          subst (λ (b : Arc). b.weight < 65536 → n ≡ choose (eqb b.place last) (need + b.weight) b.weight → Weighed s h t from middle m j b.place n) (sym is)
          (λ v f. record { place = place-known; covers = covered_next n f v; lacks = lacking n f v; short = short_here n f v })
          w e

    pub supplied : middle ≤ j → (p : ℕ) → input (net_from s h) p t ≤ get_or m p 0
    unfolding input slot_at
    supplied l p = omega (
      arith,
      c.enough p,
      sum_same 0 p t s h.arcstart j h.arcs c.within (λ i a b. share-unless 0 p t (arc_on s h i) (λ e d g. omega (arith, c.second.above i (omega arith) b))),
    )
