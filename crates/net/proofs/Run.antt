-- The cut for one recorded run (document 02, A1): the printed algorithm goes by effects, and the chosen firings fire in the slice and leave the places of Q at least the plan's tokens.
use Prim.Native.Nat.{ℕ, zero, suc, ◌+◌, ◌-◌, ◌<◌, ◌≤◌}
use mathlib.Core.Bool.{Bool, false, ◌||◌}
use mathlib.Core.List.{List, [], ◌∷◌}
use mathlib.Core.Path.{◌≡◌, refl, sym, ap, subst, ◌∙◌}
use native.Mathlib.Omega.{arith}
use lib.ListN.{length, take, drop, get_or}
use lib.Dec.{T, eqb, ltb, eqb_refl, ltb→lt, lt→ltb}
use borrow.Author.Tests.{ltb-false}
use Rattle.net.specs.Numbers.{among, any, selected, Rising}
use Rattle.net.specs.Net.{Marking, Net, input, output, raises, takes_from, Uncapped, Supplied, Enabled, fire, Fires, after}
use Rattle.net.specs.Slice.{Slice, HasPlace, HasTransition, own_place, own_transition, own, keeping, Subnet}
use Rattle.net.specs.Guarantee.{AllAmong, PlanFires, plan_tokens, SliceFires, slice_tokens}
use Rattle.net.specs.Run.{marking_after, raised_on, raised, with_inputs, Fed, go_back, fed, fired_at, run_cut}
use Rattle.net.proofs.Numbers.{by_cases, holds, fails, is_false, same_test, or_left, or_right, any-has, below-passes, below-has, selected-rises, selected-same}
use Rattle.net.proofs.Theorem.{subnet_of}
use Rattle.net.proofs.Subnet.{own-transition_lt, in_plan, each_own, own-input, own-fire}
use Rattle.net.proofs.Uncapped.{uncapped_enabled, uncapped_keeping}
use Rattle.net.proofs.Feeding.{Feeding, feed, upto, added_keeps, added_inputs, fed-below, fed-rises, fed-stays, positions_from, positions_selected, chosen_at, below-upto, chosen-below}

module _ (N : Net) (Q : List ℕ) (known : (q : ℕ) → T (among q Q) → q < N.places) where
  -- in a part of the plan that has the run's places and chosen transitions, and no caps
  module _ (S : Slice) (sub : Subnet N S) (none : Uncapped S.net) where
    -- every place of the list is one of the slice's, where the slice has at least the plan's tokens
    abbrev HasEnough : List ℕ → Marking → Marking → Type 0
    HasEnough W M m = (p : ℕ) → T (among p W) → HasPlace S p × (M p ≤ m (own_place S p))

    not-raised : (t : ℕ) (W : List ℕ) (M m : Marking) → any (raises N t) W ≡ false → Enabled N t M → HasEnough W M m → HasEnough W (fire N t M) m
    unfolding raises fire Enabled Supplied
    not-raised t W M m e en enough p h =
        let hp = (enough p h).0 in
        let fall = ltb-false (input N p t) (output N p t) (is_false _ (λ r. fails _ e (any-has (raises N t) W p h r))) in
        (hp, omega (arith, fall, en.0 p (in_plan N S sub p hp), (enough p h).1))

    fired_chosen : (t : ℕ) → HasTransition S t → (W : List ℕ) (M m : Marking) → HasEnough W M m → HasEnough W (fire N t M) (fire S.net (own_transition S t) m)
    fired_chosen t ht W M m enough p h = ((enough p h).0, rw (own-fire N S sub p t (enough p h).0 ht m) (unfold fire in omega (arith, (enough p h).1)))

    enabled_chosen : (t : ℕ) → HasTransition S t → (W : List ℕ) (M m : Marking) → ((p : ℕ) → p < N.places → T (takes_from N t p) → T (among p W))
        → HasEnough W M m → Enabled N t M → Enabled S.net (own_transition S t) m
    unfolding Enabled Supplied takes_from
    enabled_chosen t ht W M m inputs enough en =
        uncapped_enabled S.net none (own_transition S t) m (each_own N S sub (λ i. input S.net i (own_transition S t) ≤ m i)
        (λ p hp. rw (own-input N S sub p t hp ht) (by_cases (ltb 0 (input N p t))
        (λ e. let l = in_plan N S sub p hp in omega (arith, en.0 p l, (enough p (inputs p l (holds _ e))).1))
        (λ e. omega (arith, ltb-false 0 (input N p t) e)))))

    fed-fires : (i : ℕ) (ts : List ℕ) (M m : Marking) → Fires N M ts
        → ((t : ℕ) → T (among t (feed N Q i ts).chosen) → HasTransition S t) → HasEnough (feed N Q i ts).places M m
        → let us = own S.transition_origins (feed N Q i ts).chosen in Fires S.net m us × HasEnough Q (after N M ts) (after S.net m us)
    unfolding Fires after own feed
    fed-fires i [] M m f has enough = (tt, enough)
    fed-fires i (t ∷ ts) M m f has enough =
        let r = feed N Q (suc i) ts in
        let W = with_inputs N t r.places in
        by_cases (any (raises N t) r.places)
        (λ e. let has' : (u : ℕ) → T (among u (t ∷ r.chosen)) → HasTransition S u = rw (e, feed) at has in
        let enough' : HasEnough W M m = rw (e, feed) at enough in
        let ht = has' t (unfold among in or_left (eqb t t) (among t r.chosen) (eqb_refl t)) in
        let rest = fed-fires (suc i) ts (fire N t M) (fire S.net (own_transition S t) m) f.2
        (λ u h. has' u (unfold among in or_right (eqb u t) (among u r.chosen) h))
        (fired_chosen t ht r.places M m (λ p h. enough' p (added_keeps N t r.places p (fed-below N Q known (suc i) ts p h) h))) in
        rw (e, feed) (
          (
            own-transition_lt N S sub t ht,
            enabled_chosen t ht W M m (added_inputs N t r.places) enough' f.1,
            rest.0,
          ),
          rest.1,
        ))
        (λ e. rw (e, feed) (fed-fires (suc i) ts (fire N t M) m f.2 (rw (e, feed) at has) (not-raised t r.places M m e f.1 (rw (e, feed) at enough))))

-- a firing of a list, in its turn
take_next : (N : Net) (M : Marking) (ts : List ℕ) (i : ℕ) → i < length ts → after N M (take (suc i) ts) ≡ fire N (get_or ts i 0) (after N M (take i ts))
unfolding after
take_next N M [] i l = absurd (omega arith)
take_next N M (t ∷ ts) zero l = refl
take_next N M (t ∷ ts) (suc i) l = take_next N (fire N t M) ts i (omega arith)

enabled_then : (N : Net) (M : Marking) (ts : List ℕ) → Fires N M ts → (i : ℕ) → i < length ts → Enabled N (get_or ts i 0) (after N M (take i ts))
unfolding Fires after
enabled_then N M [] f i l = absurd (omega arith)
enabled_then N M (t ∷ ts) f zero l = f.1
enabled_then N M (t ∷ ts) f (suc i) l = enabled_then N (fire N t M) ts f.2 i (omega arith)

pub drop-next : (ts : List ℕ) (i : ℕ) → i < length ts → drop i ts ≡ get_or ts i 0 ∷ drop (suc i) ts
drop-next [] i l = absurd (omega arith)
drop-next (t ∷ ts) zero l = refl
drop-next (t ∷ ts) (suc i) l = drop-next ts i (omega arith)

pub drop_at : (ts : List ℕ) (i k : ℕ) → get_or ts (i + k) 0 ≡ get_or (drop i ts) k 0
drop_at [] zero k = refl
drop_at [] (suc i) k = refl
drop_at (t ∷ ts) zero k = let e : 0 + k ≡ k = omega arith in ap (λ (j : ℕ). get_or (t ∷ ts) j 0) e
drop_at (t ∷ ts) (suc i) k = let e : suc i + k ≡ suc (i + k) = omega arith in ap (λ (j : ℕ). get_or (t ∷ ts) j 0) e ∙ drop_at ts i k

pub drop_all : (ts : List ℕ) → drop (length ts) ts ≡ []
drop_all [] = refl
drop_all (t ∷ ts) = drop_all ts

any_same : (f g : ℕ → Bool) (l : List ℕ) → ((x : ℕ) → T (among x l) → f x ≡ g x) → any f l ≡ any g l
unfolding any among
any_same f g [] w = refl
any_same f g (x ∷ l) w =
    let here = w x (or_left (eqb x x) (among x l) (eqb_refl x)) in
    let rest = any_same f g l (λ y h. w y (or_right (eqb y x) (among y l) h)) in
    λ i. here i || rest i

-- a list that fires: "raised the marking" is "raises by its effect", so the printed algorithm is `feed`
module _ (N : Net) (Q : List ℕ) (known : (q : ℕ) → T (among q Q) → q < N.places) (ts : List ℕ) (f : PlanFires N ts) where
  raised-on : (i : ℕ) → i < length ts → (p : ℕ) → p < N.places → raised_on N ts i p ≡ raises N (get_or ts i 0) p
  unfolding raised_on marking_after PlanFires raises Enabled Supplied
  raised-on i l p below =
      let t = get_or ts i 0 in
      let M = after N N.marking (take i ts) in
      let M' = after N N.marking (take (suc i) ts) in
      let taken = (enabled_then N N.marking ts f i l).0 p below in
      let next : M' p ≡ M p - input N p t + output N p t = ap (λ (m : Marking). m p) (take_next N N.marking ts i l) ∙ (unfold fire in refl) in
      same_test (raised_on N ts i p) (raises N t p)
      (λ k. lt→ltb (input N p t) (output N p t) (omega (arith, ltb→lt, next, taken)))
      (λ k. lt→ltb (M p) (M' p) (omega (arith, ltb→lt, next, taken)))

  raised-raises : (i : ℕ) → i < length ts → (W : List ℕ) → ((p : ℕ) → T (among p W) → p < N.places) → raised N ts i W ≡ any (raises N (get_or ts i 0)) W
  unfolding raised
  raised-raises i l W below = any_same (raised_on N ts i) (raises N (get_or ts i 0)) W (λ p h. raised-on i l p (below p h))

  back_feed : (i : ℕ) → i ≤ length ts → let r = feed N Q i (drop i ts) in let s = feed N Q 0 ts in
      go_back N ts i r.places r.positions ≡ record { places = s.places; positions = s.positions }
  unfolding go_back
  back_feed zero l = refl
  back_feed (suc i) l =
      let r = feed N Q (suc i) (drop (suc i) ts) in
      let t = get_or ts i 0 in
      let e : feed N Q i (drop i ts) ≡ feed N Q i (t ∷ drop (suc i) ts) = ap (feed N Q i) (drop-next ts i l) in
      let rest = back_feed i (omega arith) in
      let same = raised-raises i l r.places (fed-below N Q known (suc i) (drop (suc i) ts)) in
      by_cases (any (raises N t) r.places)
      (λ d. let b = same ∙ d in
      let z : feed N Q i (drop i ts) ≡ record { places = with_inputs N t r.places; chosen = t ∷ r.chosen; positions = i ∷ r.positions } = e ∙ (unfold feed in rw (d, feed)) in
      rw (b, go_back) (sym (ap (λ (x : Feeding). go_back N ts i x.places x.positions) z) ∙ rest))
      (λ d. let b = same ∙ d in
      let z : feed N Q i (drop i ts) ≡ r = e ∙ (unfold feed in rw (d, feed)) in
      rw (b, go_back) (sym (ap (λ (x : Feeding). go_back N ts i x.places x.positions) z) ∙ rest))

  pub fed-is : let s = feed N Q 0 ts in fed N Q ts ≡ record { places = s.places; positions = s.positions }
  unfolding fed
  fed-is =
      let start : fed N Q ts ≡ go_back N ts (length ts) Q [] = refl in
      let none : feed N Q (length ts) (drop (length ts) ts) ≡ record { places = Q; chosen = []; positions = [] } = ap (feed N Q (length ts)) (drop_all ts) ∙ (unfold feed in refl) in
      start ∙ sym (ap (λ (x : Feeding). go_back N ts (length ts) x.places x.positions) none) ∙ back_feed (length ts) (omega arith)

  -- the chosen positions rise and lie in the list
  positions_are : (fed N Q ts).positions ≡ (feed N Q 0 ts).positions
  positions_are = ap (λ (r : Fed). r.positions) fed-is

  places_are : (fed N Q ts).places ≡ (feed N Q 0 ts).places
  places_are = ap (λ (r : Fed). r.places) fed-is

  pub positions_rise : Rising (fed N Q ts).positions
  positions_rise = subst (λ (l : List ℕ). Rising l) (sym (positions_are ∙ positions_selected N Q known 0 ts)) (selected-rises _ 0 (length ts))

  pub positions_inside : (i : ℕ) → T (among i (fed N Q ts).positions) → i < length ts
  positions_inside i h = let r = positions_from N Q known 0 ts i (rw positions_are at h) in omega arith

  -- "position i is chosen exactly if i is below `upto` of its transition"
  pub chosen-upto : (fed N Q ts).positions ≡ selected (λ i. ltb i (upto (λ k. get_or ts k 0) (fed N Q ts).positions (get_or ts i 0))) 0 (length ts)
  chosen-upto =
      let l = (feed N Q 0 ts).positions in
      subst (λ (x : List ℕ). x ≡ selected (λ i. ltb i (upto (λ k. get_or ts k 0) x (get_or ts i 0))) 0 (length ts)) (sym positions_are)
      (positions_selected N Q known 0 ts ∙ selected-same (λ i. among i l) (λ i. ltb i (upto (λ k. get_or ts k 0) l (get_or ts i 0))) 0 (length ts)
      (λ i a b. below-upto N Q known (λ k. get_or ts k 0) 0 ts (λ k h. ap (λ j. get_or ts j 0) (omega arith)) i a b))

  -- the places and the transitions of the slice
  pub run-places_rise : Rising Q → Rising (fed N Q ts).places
  run-places_rise rise = subst (λ (l : List ℕ). Rising l) (sym places_are) (fed-rises N Q known rise 0 ts)

  pub run-places_below : (p : ℕ) → T (among p (fed N Q ts).places) → p < N.places
  run-places_below p h = fed-below N Q known 0 ts p (rw places_are at h)

  pub criterion_fed : (q : ℕ) → T (among q Q) → T (among q (fed N Q ts).places)
  criterion_fed q h = rw places_are (stays 0 ts q h)
    where
      stays : (i : ℕ) (ts : List ℕ) (q : ℕ) → T (among q Q) → T (among q (feed N Q i ts).places)
      stays i [] q h = unfold feed in h
      stays i (t ∷ ts) q h = fed-stays N Q known i t ts q (stays (suc i) ts q h)

  -- "Fired in order from the slice's marking, the chosen positions all fire and leave each place of Q at least the plan's tokens", where no place has a cap
  pub run_cut_row : Uncapped N → Rising Q
      → let S = run_cut N Q ts in let cs = fired_at ts (fed N Q ts).positions in SliceFires S cs × ((q : ℕ) → T (among q Q) → plan_tokens N ts q ≤ slice_tokens S cs q)
  unfolding run_cut PlanFires SliceFires plan_tokens slice_tokens AllAmong keeping fired_at
  run_cut_row none rise =
      let r = feed N Q 0 ts in
      let cs = fired_at ts (fed N Q ts).positions in
      let us = selected (λ t. among t cs) 0 N.transitions in
      let same : r.chosen ≡ cs = chosen_at N Q known (λ i. get_or ts i 0) 0 ts (λ k h. ap (λ j. get_or ts j 0) (omega arith)) ∙ ap (fired_at ts) (sym positions_are) in
      let S = keeping N (fed N Q ts).places us in
      let sub = subnet_of N (fed N Q ts).places us (run-places_rise rise) (selected-rises _ 0 N.transitions) run-places_below (λ t h. (below-passes _ N.transitions t h).0) in
      let has : (t : ℕ) → T (among t cs) → T (among t us) = λ t h. below-has (λ u. among u cs) N.transitions t (chosen-below N Q known 0 ts N.marking f t (rw same h)) h in
      let done = fed-fires N Q known S sub (uncapped_keeping N none (fed N Q ts).places us) 0 ts N.marking S.net.marking f (λ t h. has t (rw same at h))
      (λ p h. let k = rw (sym places_are) at h in (k, omega (arith, sub.markings_equal p k))) in
      let fires = rw same at done.0 in
      let enough = rw same at done.1 in
      ((has, fires), λ q h. (enough q h).1)
