-- Going back over a run by the effects of its firings, from the front: what is chosen, and at which positions (document 02, A1).
use Prim.Native.Nat.{ℕ, suc, ◌+◌, ◌<◌, ◌≤◌}
use mathlib.Core.Bool.{true, false, ◌||◌}
use mathlib.Core.List.{List, [], ◌∷◌, map}
use mathlib.Core.Path.{◌≡◌, refl, sym, ap, ◌∙◌}
use native.Mathlib.Omega.{arith}
use lib.ListN.{length, get_or}
use lib.Dec.{T, eqb, ltb, eqb_refl, eqb→eq}
use borrow.Author.Tests.{ltb-true, ltb-false, lt-ltb, le-ltb, ne_eqb}
use Rattle.net.specs.Numbers.{among, any, selected, Rising}
use Rattle.net.specs.Net.{Marking, Net, raises, takes_from, fire, Fires}
use Rattle.net.specs.Run.{with_inputs}
use Rattle.net.proofs.Numbers.{by_cases, by_order, by_or, holds, fails, is_true, is_false, or_left, or_right, any-has, any-finds, below-passes, below-has, selected-rises, length-selected, selected-same}

-- W before the list, and the transitions and positions of the chosen firings
pub record Feeding : Type 0 where
  pub places : List ℕ
  pub chosen : List ℕ
  pub positions : List ℕ

-- i firings stand before the list
unfoldable pub feed : Net → List ℕ → ℕ → List ℕ → Feeding
feed N Q i [] = record { places = Q; chosen = []; positions = [] }
feed N Q i (t ∷ ts) =
    let r = feed N Q (suc i) ts in
    elim (any (raises N t) r.places) [
      | true ↦ record { places = with_inputs N t r.places; chosen = t ∷ r.chosen; positions = i ∷ r.positions }
      | false ↦ r
    ]

-- one past the last of the positions at which u fires; 0 where there is none
unfoldable pub upto : (ℕ → ℕ) → List ℕ → ℕ → ℕ
upto f [] u = 0
upto f (j ∷ l) u = elim (ltb 0 (upto f l u)) [ true ↦ upto f l u | false ↦ elim (eqb (f j) u) [ true ↦ suc j | false ↦ 0 ] ]

module _ (f : ℕ → ℕ) where
  -- it is the position after one of those
  pub upto_there : (l : List ℕ) (u : ℕ) → 0 < upto f l u → (j : ℕ) × (upto f l u ≡ suc j) × T (among j l) × (f j ≡ u)
  unfolding upto among
  upto_there [] u h = absurd (omega arith)
  upto_there (j ∷ l) u h =
      by_cases (ltb 0 (upto f l u))
      (λ e. let r = upto_there l u (ltb-true 0 (upto f l u) e) in
      (r.0, rw (e, upto) r.1, or_right (eqb r.0 j) (among r.0 l) r.2, r.3))
      (λ e. by_cases (eqb (f j) u)
      (λ d. (j, rw (e, upto, d), or_left (eqb j j) (among j l) (eqb_refl j), eqb→eq (f j) u (holds _ d)))
      (λ d. let z : 0 < 0 = rw (e, upto, d) at h in absurd (omega arith)))

  -- and u fires at one of them where it is not 0
  pub upto_among : (l : List ℕ) (u : ℕ) → ltb 0 (upto f l u) ≡ among u (map f l)
  unfolding upto among
  upto_among [] u = refl
  upto_among (j ∷ l) u =
      by_cases (ltb 0 (upto f l u))
      (λ e. let same : upto f (j ∷ l) u ≡ upto f l u = rw (e, upto) in
      ap (ltb 0) same ∙ e ∙ sym (is_true _ (or_right (eqb u (f j)) (among u (map f l)) (rw (upto_among l u) at (holds (ltb 0 (upto f l u)) e)))))
      (λ e. by_cases (eqb (f j) u)
      (λ d. let same : upto f (j ∷ l) u ≡ suc j = rw (e, upto, d) in
      ap (ltb 0) same ∙ lt-ltb 0 (suc j) (omega arith) ∙ sym (is_true _ (or_left (eqb u (f j)) (among u (map f l)) (rw (eqb→eq (f j) u (holds _ d)) (eqb_refl u)))))
      (λ d. let same : upto f (j ∷ l) u ≡ 0 = rw (e, upto, d) in
      ap (ltb 0) same ∙ sym (is_false _ (λ h. by_or (eqb u (f j)) (among u (map f l)) h
      (λ k. fails _ d (rw (eqb→eq u (f j) k) (eqb_refl (f j))))
      (λ k. fails _ e (rw (upto_among l u) k))))))

-- W with a transition's input places
module _ (N : Net) (t : ℕ) (W : List ℕ) where
  pub added_inputs : (p : ℕ) → p < N.places → T (takes_from N t p) → T (among p (with_inputs N t W))
  unfolding with_inputs
  added_inputs p l h = below-has _ N.places p l (or_right (among p W) _ h)

  pub added_keeps : (p : ℕ) → p < N.places → T (among p W) → T (among p (with_inputs N t W))
  unfolding with_inputs
  added_keeps p l h = below-has _ N.places p l (or_left (among p W) _ h)

  pub added_below : (p : ℕ) → T (among p (with_inputs N t W)) → (p < N.places) × T (among p W || takes_from N t p)
  unfolding with_inputs
  added_below p h = below-passes _ N.places p h

  pub added_rises : Rising (with_inputs N t W)
  unfolding with_inputs
  added_rises = selected-rises _ 0 N.places

module _ (N : Net) (Q : List ℕ) (known : (q : ℕ) → T (among q Q) → q < N.places) where
  pub fed-below : (i : ℕ) (ts : List ℕ) (p : ℕ) → T (among p (feed N Q i ts).places) → p < N.places
  unfolding feed
  fed-below i [] p h = known p h
  fed-below i (t ∷ ts) p h =
      by_cases (any (raises N t) (feed N Q (suc i) ts).places)
      (λ e. (added_below N t (feed N Q (suc i) ts).places p (rw (e, feed) at h)).0)
      (λ e. fed-below (suc i) ts p (rw (e, feed) at h))

  pub fed-rises : Rising Q → (i : ℕ) (ts : List ℕ) → Rising (feed N Q i ts).places
  unfolding feed
  fed-rises rise i [] = rise
  fed-rises rise i (t ∷ ts) =
      by_cases (any (raises N t) (feed N Q (suc i) ts).places)
      (λ e. rw (e, feed) (added_rises N t (feed N Q (suc i) ts).places))
      (λ e. rw (e, feed) (fed-rises rise (suc i) ts))

  -- W only grows on the way back
  pub fed-stays : (i t : ℕ) (ts : List ℕ) (p : ℕ) → T (among p (feed N Q (suc i) ts).places) → T (among p (feed N Q i (t ∷ ts)).places)
  unfolding feed
  fed-stays i t ts p h =
      by_cases (any (raises N t) (feed N Q (suc i) ts).places)
      (λ e. rw (e, feed) (added_keeps N t (feed N Q (suc i) ts).places p (fed-below (suc i) ts p h) h))
      (λ e. rw (e, feed) h)

  -- so a chosen transition raises a place of every earlier W
  raiser_stays : (i t : ℕ) (ts : List ℕ) (u : ℕ) → T (any (raises N u) (feed N Q (suc i) ts).places) → T (any (raises N u) (feed N Q i (t ∷ ts)).places)
  raiser_stays i t ts u h =
      let s = any-finds (raises N u) (feed N Q (suc i) ts).places h in
      any-has (raises N u) (feed N Q i (t ∷ ts)).places s.0 (fed-stays i t ts s.0 s.1) s.2

  pub chosen-raises : (i : ℕ) (ts : List ℕ) (u : ℕ) → T (among u (feed N Q i ts).chosen) → T (any (raises N u) (feed N Q i ts).places)
  unfolding feed among
  chosen-raises i [] u h = absurd h
  chosen-raises i (t ∷ ts) u h =
      by_cases (any (raises N t) (feed N Q (suc i) ts).places)
      (λ e. raiser_stays i t ts u (by_or (eqb u t) (among u (feed N Q (suc i) ts).chosen) (rw (e, feed) at h)
      (λ k. rw (eqb→eq u t k) (holds _ e))
      (λ k. chosen-raises (suc i) ts u k)))
      (λ e. raiser_stays i t ts u (chosen-raises (suc i) ts u (rw (e, feed) at h)))

  -- positions
  pub positions_from : (i : ℕ) (ts : List ℕ) (k : ℕ) → T (among k (feed N Q i ts).positions) → (i ≤ k) × (k < i + length ts)
  unfolding feed among
  positions_from i [] k h = absurd h
  positions_from i (t ∷ ts) k h =
      by_cases (any (raises N t) (feed N Q (suc i) ts).places)
      (λ e. by_or (eqb k i) (among k (feed N Q (suc i) ts).positions) (rw (e, feed) at h)
      (λ d. let z = eqb→eq k i d in (omega arith, omega arith))
      (λ d. let r = positions_from (suc i) ts k d in (omega arith, omega arith)))
      (λ e. let r = positions_from (suc i) ts k (rw (e, feed) at h) in (omega arith, omega arith))

  none_before : (i : ℕ) (ts : List ℕ) → among i (feed N Q (suc i) ts).positions ≡ false
  none_before i ts = is_false _ (λ h. let r = positions_from (suc i) ts i h in omega arith)

  pub positions_selected : (i : ℕ) (ts : List ℕ) → (feed N Q i ts).positions ≡ selected (λ k. among k (feed N Q i ts).positions) i (length ts)
  unfolding feed among selected
  positions_selected i [] = refl
  positions_selected i (t ∷ ts) =
      let r = (feed N Q (suc i) ts).positions in
      by_cases (any (raises N t) (feed N Q (suc i) ts).places)
      (λ e. let p : (feed N Q i (t ∷ ts)).positions ≡ i ∷ r = rw (e, feed) in
      let first : selected (λ k. among k (i ∷ r)) i (suc (length ts)) ≡ i ∷ selected (λ k. among k (i ∷ r)) (suc i) (length ts) = rw (is_true (eqb i i) (eqb_refl i), selected) in
      p ∙ ap (λ (l : List ℕ). i ∷ l) (positions_selected (suc i) ts ∙ selected-same (λ k. among k r) (λ k. among k (i ∷ r)) (suc i) (length ts)
      (λ x l u. let d = ne_eqb x i (λ z. omega arith) in rw d))
      ∙ sym first ∙ ap (λ (l : List ℕ). selected (λ k. among k l) i (suc (length ts))) (sym p))
      (λ e. let p : (feed N Q i (t ∷ ts)).positions ≡ r = rw (e, feed) in
      let next : selected (λ k. among k r) i (suc (length ts)) ≡ selected (λ k. among k r) (suc i) (length ts) = rw (none_before i ts, selected) in
      p ∙ positions_selected (suc i) ts ∙ sym next ∙ ap (λ (l : List ℕ). selected (λ k. among k l) i (suc (length ts))) (sym p))

  pub positions_few : (i : ℕ) (ts : List ℕ) → length (feed N Q i ts).positions ≤ length ts
  positions_few i ts = omega (arith, ap length (positions_selected i ts), length-selected (λ k. among k (feed N Q i ts).positions) i (length ts))

  -- the transitions chosen are those at the positions chosen
  pub chosen_at : (f : ℕ → ℕ) (i : ℕ) (ts : List ℕ) → ((k : ℕ) → k < length ts → f (i + k) ≡ get_or ts k 0) → (feed N Q i ts).chosen ≡ map f (feed N Q i ts).positions
  unfolding feed
  chosen_at f i [] w = refl
  chosen_at f i (t ∷ ts) w =
      let here : t ≡ f i = sym (ap f (omega arith) ∙ w 0 (omega arith)) in
      let rest = chosen_at f (suc i) ts (λ k l. ap f (omega arith) ∙ w (suc k) (omega arith)) in
      by_cases (any (raises N t) (feed N Q (suc i) ts).places)
      (λ e. rw (e, feed) (λ x. here x ∷ rest x))
      (λ e. rw (e, feed) rest)

  -- position k is chosen exactly if it is below `upto` of its transition: once chosen, a transition is chosen at every earlier firing of it
  module _ (f : ℕ → ℕ) where
    later : (i : ℕ) (ts : List ℕ) (u : ℕ) → 0 < upto f (feed N Q (suc i) ts).positions u → suc i < upto f (feed N Q (suc i) ts).positions u
    later i ts u h =
        let s = upto_there f (feed N Q (suc i) ts).positions u h in
        let r = positions_from (suc i) ts s.0 s.2 in
        let e = s.1 in omega arith

    -- a firing that is not chosen is of no transition chosen later
    not-later : (i t : ℕ) (ts : List ℕ) → ((k : ℕ) → k < length ts → f (suc i + k) ≡ get_or ts k 0) → any (raises N t) (feed N Q (suc i) ts).places ≡ false
        → upto f (feed N Q (suc i) ts).positions t ≡ 0
    not-later i t ts w e =
        let l = (feed N Q (suc i) ts).positions in
        by_cases (ltb 0 (upto f l t))
        (λ d. absurd (fails _ e (chosen-raises (suc i) ts t (rw (chosen_at f (suc i) ts w) (rw (upto_among f l t) at (holds (ltb 0 (upto f l t)) d))))))
        (λ d. omega (arith, ltb-false 0 (upto f l t) d))

    taken : (i : ℕ) (l : List ℕ) (k : ℕ) → i ≤ k → (0 < upto f l (f k) → suc i < upto f l (f k)) → (suc i ≤ k → among k l ≡ ltb k (upto f l (f k)))
        → among k (i ∷ l) ≡ ltb k (upto f (i ∷ l) (f k))
    unfolding among upto
    taken i l k h after rest =
        by_order i k
        (λ d. let off : eqb k i ≡ false = ne_eqb k i (λ z. omega arith) in
        rw off (rest d ∙ by_cases (ltb 0 (upto f l (f k)))
        (λ e. ap (ltb k) (let same : upto f l (f k) ≡ upto f (i ∷ l) (f k) = rw (e, upto) in same))
        (λ e. by_cases (eqb (f i) (f k))
        (λ g. let same : upto f (i ∷ l) (f k) ≡ suc i = rw (e, upto, g) in
        le-ltb k (upto f l (f k)) (omega (arith, ltb-false 0 (upto f l (f k)) e)) ∙ sym (ap (ltb k) same ∙ le-ltb k (suc i) (omega arith)))
        (λ g. let same : upto f (i ∷ l) (f k) ≡ 0 = rw (e, upto, g) in
        le-ltb k (upto f l (f k)) (omega (arith, ltb-false 0 (upto f l (f k)) e)) ∙ sym (ap (ltb k) same ∙ le-ltb k 0 (omega arith))))))
        (λ d. let z : f i ≡ f k = ap f d in
        let on : eqb k i ≡ true = is_true _ (rw d (eqb_refl k)) in
        rw on (sym (by_cases (ltb 0 (upto f l (f k)))
        (λ e. let same : upto f (i ∷ l) (f k) ≡ upto f l (f k) = rw (e, upto) in
        ap (ltb k) same ∙ lt-ltb k (upto f l (f k)) (omega (arith, after (ltb-true 0 (upto f l (f k)) e))))
        (λ e. let same : upto f (i ∷ l) (f k) ≡ suc i = rw (e, upto, is_true (eqb (f i) (f k)) (rw z (eqb_refl (f k)))) in
        ap (ltb k) same ∙ lt-ltb k (suc i) (omega arith)))))
        (λ d. absurd (omega arith))

    pub below-upto : (i : ℕ) (ts : List ℕ) → ((k : ℕ) → k < length ts → f (i + k) ≡ get_or ts k 0) → (k : ℕ) → i ≤ k → k < i + length ts
        → among k (feed N Q i ts).positions ≡ ltb k (upto f (feed N Q i ts).positions (f k))
    unfolding feed
    below-upto i [] w k l u = absurd (omega arith)
    below-upto i (t ∷ ts) w k l u =
        let r = feed N Q (suc i) ts in
        let here : f i ≡ t = ap f (omega arith) ∙ w 0 (omega arith) in
        let w' : (k : ℕ) → k < length ts → f (suc i + k) ≡ get_or ts k 0 = λ k l. ap f (omega arith) ∙ w (suc k) (omega arith) in
        by_cases (any (raises N t) r.places)
        (λ e. let p : (feed N Q i (t ∷ ts)).positions ≡ i ∷ r.positions = rw (e, feed) in
        ap (λ (l : List ℕ). among k l) p
        ∙ taken i r.positions k l (λ h. later i ts (f k) h) (λ d. below-upto (suc i) ts w' k d (omega arith))
        ∙ ap (λ (l : List ℕ). ltb k (upto f l (f k))) (sym p))
        (λ e. let p : (feed N Q i (t ∷ ts)).positions ≡ r.positions = rw (e, feed) in
        ap (λ (l : List ℕ). among k l) p
        ∙ by_order i k
        (λ d. below-upto (suc i) ts w' k d (omega arith))
        (λ d. let z : f k ≡ t = ap f (sym d) ∙ here in
        ap (λ (x : ℕ). among x r.positions) (sym d) ∙ none_before i ts
        ∙ sym (ap (λ (x : ℕ). ltb k (upto f r.positions x)) z ∙ le-ltb k (upto f r.positions t) (omega (arith, not-later i t ts w' e))))
        (λ d. absurd (omega arith))
        ∙ ap (λ (l : List ℕ). ltb k (upto f l (f k))) (sym p))

  pub chosen-below : (i : ℕ) (ts : List ℕ) (M : Marking) → Fires N M ts → (t : ℕ) → T (among t (feed N Q i ts).chosen) → t < N.transitions
  unfolding feed Fires among
  chosen-below i [] M f u h = absurd h
  chosen-below i (t ∷ ts) M f u h =
      by_cases (any (raises N t) (feed N Q (suc i) ts).places)
      (λ e. by_or (eqb u t) (among u (feed N Q (suc i) ts).chosen) (rw (e, feed) at h)
      (λ k. rw (eqb→eq u t k) f.0)
      (λ k. chosen-below (suc i) ts (fire N t M) f.2 u k))
      (λ e. chosen-below (suc i) ts (fire N t M) f.2 u (rw (e, feed) at h))
