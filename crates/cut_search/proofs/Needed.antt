-- The arcs of a transition, one by one: the places that it needs are those of its input arcs, and those of its output arcs that have a cap.
use Prim.Native.Nat.{ℕ, ◌+◌, ◌*◌, ◌≤◌, ◌<◌}
use mathlib.Core.Bool.{Bool, true, false, ◌&&◌, ◌||◌, and-true, and-false, or-true, or-false}
use mathlib.Core.List.{List}
use mathlib.Core.Path.{◌≡◌, refl, sym, ap, ap₂, ◌∙◌, subst}
use native.Mathlib.Omega.{arith}
use native.Mathlib.Decide.{dec_lt}
use lib.Dec.{T, eqb, eqb→eq, ltb}
use lib.ListN.{length}
use borrow.Author.Tests.{eq-eqb, ne_eqb, lt-ltb, le-ltb, ltb-true, eqb-true, eqb-false}
use Rattle.net.specs.Net.{Net, weight_on, input, output, takes_from, adds_to, capped, Uncapped}
use Rattle.net.specs.declared.Arc.{Arc}
use Rattle.net.proofs.Numbers.{by_cases, by_or, holds, is_true, and_left, and_right, and_both, or_left, or_right, same_test}
use Rattle.net.proofs.Markings.{below-off}
use Rattle.net.proofs.Uncapped.{no_cap}
use Rattle.file_arcs.specs.Layout.{arc_at}
use Rattle.file.specs.Layout.{cap_at, net_from}
use Rattle.file.specs.Facts.{Sound}
use Rattle.file_header.specs.declared.Header.{Header}
use Rattle.file.proofs.Caps.{no_cap_by}
use Rattle.file.proofs.Rows.{good_at}
use Rattle.arcs_starts.specs.Table.{slot_at, Split}
use Rattle.arcs_starts.proofs.Reached.{ordered}
use Rattle.sets_pending.specs.Growing.{PlacesKept}
use Rattle.arcs_column.specs.Ways.{transition_at, direction_at, place_at}
use Rattle.arcs_column.proofs.Arcs.{has_arc, arc-has}
use Rattle.cut_rows.proofs.Inputs.{takes_inside}
use Rattle.cut_search.specs.Search.{needs_of, needs_place}
use Rattle.cut_search.proofs.Steps.{places_none, places_as, places_join}

-- a place with a cap is a place of the file
capped-inside : (s : List ℕ) (h : Header) (p : ℕ) → T (capped (net_from s h) p) → p < h.places
unfolding capped
capped-inside s h p c = go (dec_lt p h.places)
  where
    go : Dec (p < h.places) → p < h.places
    go (yes l) = l
    go (no l) = absurd (omega (arith, below-off h.places (cap_at s h) p (omega arith), ltb-true 0 ((net_from s h).cap p) (is_true _ c)))

-- so is one that a transition needs
pub needs_inside : (s : List ℕ) (h : Header) → Sound s h → (t p : ℕ) → T (needs_of (net_from s h) t p) → p < h.places
needs_inside s h sound t p x =
    let N = net_from s h in
    by_or (takes_from N t p) (capped N p && adds_to N t p) x (takes_inside s h sound t p) (λ y. capped-inside s h p (and_left (capped N p) (adds_to N t p) y))

-- in a file of another edition than 2 a transition needs its inputs
pub needs_inputs : (s : List ℕ) (h : Header) → eqb h.edition 2 ≡ false → (t p : ℕ) → takes_from (net_from s h) t p ≡ needs_of (net_from s h) t p
unfolding Uncapped
needs_inputs s h e t p =
    let N = net_from s h in
    sym (ap (λ (b : Bool). takes_from N t p || b && adds_to N t p) (no_cap N (no_cap_by s h e) p) ∙ or-false (takes_from N t p))

-- ---- the place of one arc

-- is it needed?
module _ (N : Net) (a : Arc) where
  pub needed_input : a.direction ≡ 0 → needs_place N a ≡ true
  needed_input e = ap (λ (b : Bool). b || capped N a.place) (eq-eqb a.direction 0 e)

  pub needed_capped : 0 < N.cap a.place → needs_place N a ≡ true
  unfolding capped
  needed_capped l = ap (λ (b : Bool). eqb a.direction 0 || b) (lt-ltb 0 (N.cap a.place) l) ∙ or-true (eqb a.direction 0)

  pub not-needed : (a.direction ≡ 0 → ⊥) → N.cap a.place ≡ 0 → needs_place N a ≡ false
  unfolding capped
  not-needed n e = ap₂ ◌||◌ (ne_eqb a.direction 0 n) (le-ltb 0 (N.cap a.place) (omega arith))

-- it is kept by that test
module _ (p : ℕ) (test : Bool) (m : ℕ) (P : List ℕ) where
  pub place_kept : test ≡ true → (m' : ℕ) (P' : List ℕ) → PlacesKept (λ k. eqb k p) m m' P P' → PlacesKept (λ k. eqb k p && test) m m' P P'
  place_kept e m' P' x = places_as _ _ m m' P P' x (λ k. sym (ap (λ (b : Bool). eqb k p && b) e ∙ and-true (eqb k p)))

  pub place-left : test ≡ false → length P ≡ 16 → PlacesKept (λ k. eqb k p && test) m m P P
  place-left e w = places_none _ m P w (λ k. ap (λ (b : Bool). eqb k p && b) e ∙ and-false (eqb k p))

-- ---- arc after arc

-- one of the arcs from `from` on, before j, is at k, and its transition needs k
pub record NeededBy (s : List ℕ) (h : Header) (from j k : ℕ) : Type 0 where
  pub at : ℕ
  pub after : from ≤ at
  pub before : at < j
  pub place : place_at s h.arcstart at ≡ k
  pub needs : T (needs_place (net_from s h) (arc_at s (h.arcstart + 8 * at)))

-- the arcs up to j are not after those of t, which start with arc `from`, and the places that t needs by them are kept
pub record Needed (s : List ℕ) (h : Header) (from t j marks marks' : ℕ) (places places' : List ℕ) : Type 0 where
  pub after : from ≤ j
  pub within : j ≤ h.arcs
  pub upto : (i : ℕ) → i < j → slot_at s h.arcstart i < 2 * t + 2
  pub new : ℕ → Bool
  pub kept : PlacesKept new marks marks' places places'
  pub finds : (k : ℕ) → T (new k) → NeededBy s h from j k
  pub has : (i : ℕ) → from ≤ i → i < j → T (needs_place (net_from s h) (arc_at s (h.arcstart + 8 * i))) → T (new (place_at s h.arcstart i))

module _ (s : List ℕ) (h : Header) (sound : Sound s h) (from t : ℕ) (low : Split s h.arcstart h.arcs (2 * t) from) (marks : ℕ) (places : List ℕ) where
  pub needed_none : length places ≡ 16 → Needed s h from t from marks marks places places
  needed_none w = record {
    after = omega arith;
    within = low.within;
    upto = λ i l. omega (arith, low.below i l);
    new = λ k. false;
    kept = places_none (λ k. false) marks places w (λ k. refl);
    finds = λ k x. absurd x;
    has = λ i a b. absurd (omega arith);
  }

  module _ (j m : ℕ) (P : List ℕ) (x : Needed s h from t j marks m places P) where
    module _ (l : j < h.arcs) where
      slot : slot_at s h.arcstart j ≡ 2 * transition_at s h.arcstart j + direction_at s h.arcstart j
      unfolding slot_at
      slot = refl

      -- arc j is one of t
      pub needed_more : transition_at s h.arcstart j ≡ t → (a : Arc) → a ≡ arc_at s (h.arcstart + 8 * j) → (m' : ℕ) (P' : List ℕ)
          → PlacesKept (λ k. eqb k a.place && needs_place (net_from s h) a) m m' P P' → Needed s h from t (j + 1) marks m' places P'
      needed_more e a is m' P' y = record {
        after = let q = x.after in omega arith;
        within = omega arith;
        upto = λ i q. upto i q (dec_lt i j);
        new = λ k. x.new k || here k;
        kept = places_join x.new here marks m m' places P P' x.kept y;
        finds = λ k u. by_or (x.new k) (here k) u
            (λ v. let f = x.finds k v in let q = f.before in record { at = f.at; after = f.after; before = omega arith; place = f.place; needs = f.needs })
            (λ v. record {
              at = j;
              after = x.after;
              before = omega arith;
              place = sym (ap (λ (b : Arc). b.place) is) ∙ sym (eqb→eq k a.place (and_left (eqb k a.place) (needs_place (net_from s h) a) v));
              needs = subst (λ (b : Arc). T (needs_place (net_from s h) b)) is (and_right (eqb k a.place) (needs_place (net_from s h) a) v);
            });
        has = λ i b c u. has i b c u (dec_lt i j);
      }
        where
          here : ℕ → Bool
          here k = eqb k a.place && needs_place (net_from s h) a

          upto : (i : ℕ) → i < j + 1 → Dec (i < j) → slot_at s h.arcstart i < 2 * t + 2
          upto i q (yes b) = x.upto i b
          upto i q (no b) = let f : i ≡ j = omega arith in omega (arith, ap (slot_at s h.arcstart) f, slot, e, (good_at s h sound j l).direction)

          has : (i : ℕ) → from ≤ i → i < j + 1 → T (needs_place (net_from s h) (arc_at s (h.arcstart + 8 * i))) → Dec (i < j) → T (x.new (place_at s h.arcstart i) || here (place_at s h.arcstart i))
          has i b c u (yes q) = or_left (x.new (place_at s h.arcstart i)) (here (place_at s h.arcstart i)) (x.has i b q u)
          has i b c u (no q) =
              let f : i ≡ j = omega arith in
              let g : arc_at s (h.arcstart + 8 * i) ≡ a = ap (λ (k : ℕ). arc_at s (h.arcstart + 8 * k)) f ∙ sym is in
              or_right (x.new (place_at s h.arcstart i)) (here (place_at s h.arcstart i))
              (and_both (eqb (place_at s h.arcstart i) a.place) (needs_place (net_from s h) a) (holds _ (eq-eqb _ _ (ap (λ (b : Arc). b.place) g))) (subst (λ (b : Arc). T (needs_place (net_from s h) b)) g u))

    -- the arcs up to j are all that t has
    module _ (high : Split s h.arcstart h.arcs (2 * t + 2) j) (k : ℕ) where
      -- an arc of them at k adds its weight
      adds : (f : NeededBy s h from j k) (d : ℕ) → direction_at s h.arcstart f.at ≡ d → T (ltb 0 (weight_on d k t (net_from s h).arcs))
      unfolding slot_at
      adds f d e =
          let inside : f.at < h.arcs = omega (arith, f.before, x.within) in
          let good = good_at s h sound f.at inside in
          let same : transition_at s h.arcstart f.at ≡ t = omega (arith, low.above f.at f.after inside, high.below f.at f.before, good.direction) in
          let weight = arc-has d k t s h.arcstart h.arcs f.at inside (record { transition = same; direction = e; place = f.place }) in
          holds _ (lt-ltb 0 (weight_on d k t (net_from s h).arcs) (omega (arith, weight, good.weight)))

      -- an arc of t stands among them
      among : (i : ℕ) → i < h.arcs → transition_at s h.arcstart i ≡ t → (from ≤ i) × (i < j)
      unfolding slot_at
      among i l e = (after (dec_lt i from), before (dec_lt i j))
        where
          after : Dec (i < from) → from ≤ i
          after (yes q) = absurd (omega (arith, low.below i q))
          after (no q) = omega arith

          before : Dec (i < j) → i < j
          before (yes q) = q
          before (no q) = absurd (omega (arith, high.above i (omega arith) l, (good_at s h sound i l).direction))

      -- a weight of t at k has an arc
      found : (d : ℕ) → T (ltb 0 (weight_on d k t (net_from s h).arcs)) → T (eqb d 0 || capped (net_from s h) k) → T (x.new k)
      found d w needs =
          let arc = has_arc d k t s h.arcstart h.arcs (ltb-true 0 (weight_on d k t (net_from s h).arcs) (is_true _ w)) in
          let inside = among arc.at arc.below arc.joins_it.transition in
          let here : T (needs_place (net_from s h) (arc_at s (h.arcstart + 8 * arc.at))) =
          subst (λ (p : ℕ). T (eqb (direction_at s h.arcstart arc.at) 0 || capped (net_from s h) p)) (sym arc.joins_it.place)
          (subst (λ (c : ℕ). T (eqb c 0 || capped (net_from s h) k)) (sym arc.joins_it.direction) needs) in
          subst (λ (p : ℕ). T (x.new p)) arc.joins_it.place (x.has arc.at inside.0 inside.1 here)

      needed_are : x.new k ≡ needs_of (net_from s h) t k
      unfolding takes_from adds_to input output
      needed_are = same_test (x.new k) (needs_of (net_from s h) t k) to of
        where
          takes : Bool
          takes = takes_from (net_from s h) t k

          cap : Bool
          cap = capped (net_from s h) k

          puts : Bool
          puts = adds_to (net_from s h) t k

          to : T (x.new k) → T (needs_of (net_from s h) t k)
          to u =
              let f = x.finds k u in
              let d = direction_at s h.arcstart f.at in
              let one = (good_at s h sound f.at (omega (arith, f.before, x.within))).direction in
              by_cases (eqb d 0)
              (λ e. or_left takes (cap && puts) (adds f 0 (eqb-true d 0 e)))
              (λ e. or_right takes (cap && puts) (and_both cap puts (subst (λ (p : ℕ). T (capped (net_from s h) p)) f.place (rw e at f.needs)) (adds f 1 (omega (arith, eqb-false d 0 e)))))

          of : T (needs_of (net_from s h) t k) → T (x.new k)
          of u =
              by_or takes (cap && puts) u
              (λ v. found 0 v tt)
              (λ v. found 1 (and_right cap puts v) (and_left cap puts v))

    -- arc j is none of t
    pub needed_stop : j < h.arcs → (transition_at s h.arcstart j ≡ t → ⊥) → PlacesKept (needs_of (net_from s h) t) marks m places P
    unfolding slot_at
    needed_stop l n = places_as x.new (needs_of (net_from s h) t) marks m places P x.kept (needed_are (record { within = x.within; below = x.upto; above = above }))
      where
        here : 2 * t + 2 ≤ slot_at s h.arcstart j
        here = go (dec_lt (slot_at s h.arcstart j) (2 * t + 2))
          where
            go : Dec (slot_at s h.arcstart j < 2 * t + 2) → 2 * t + 2 ≤ slot_at s h.arcstart j
            go (yes q) = absurd (n (omega (arith, low.above j x.after l, (good_at s h sound j l).direction)))
            go (no q) = omega arith

        above : (i : ℕ) → j ≤ i → i < h.arcs → 2 * t + 2 ≤ slot_at s h.arcstart i
        above i a b = omega (arith, here, (ordered s h sound).order j i a b)

    -- there are no more arcs
    pub needed_all : h.arcs ≤ j → PlacesKept (needs_of (net_from s h) t) marks m places P
    needed_all l = places_as x.new (needs_of (net_from s h) t) marks m places P x.kept (needed_are (record { within = x.within; below = x.upto; above = λ i a b. absurd (omega arith) }))
