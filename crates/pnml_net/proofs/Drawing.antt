-- The weights of the net that a text names are the sums that the text draws between ids.
use Prim.Native.Nat.{ℕ, zero, suc, ◌+◌, ◌<◌}
use mathlib.Core.Path.{◌≡◌, refl, sym, ap, ◌∙◌}
use mathlib.Core.Bool.{Bool, true, false, ◌&&◌, true≢false}
use mathlib.Core.List.{List, [], ◌∷◌, ◌++◌}
use native.Mathlib.Omega.{arith}
use lib.Dec.{eqb}
use lib.ListN.{length, get_or}
use borrow.Author.Tests.{eqb-true, eq-eqb, ne_eqb}
use Rattle.net.specs.Net.{counted, weight_on}
use Rattle.net.specs.declared.Arc.{Arc}
use Rattle.net.proofs.Numbers.{by_cases, and-true}
use Rattle.pnml_page.specs.Profile.{Element}
use Rattle.pnml_names.specs.Names.{same_id, position, among, repeats}
use Rattle.pnml_names.proofs.Ids.{same_eq, same_refl, or-false, no_other, repeats-front, repeats-back}
use Rattle.pnml_net.specs.Read.{is_none, any_apart}
use Rattle.pnml_net.specs.Named.{joined, arcs_of}
use Rattle.pnml_net.specs.Drawn.{drawn}

-- where no id stands twice, an id has the number of an id exactly if it is that id
among-id : (l : List (List ℕ)) (i : ℕ) → i < length l → among (get_or l i []) l ≡ true
unfolding among
among-id [] i h = absurd (omega arith)
among-id (y ∷ l) zero h = rw (same_refl y)
among-id (y ∷ l) (suc i) h = by_cases (same_id (get_or l i []) y) (λ e. rw e) (λ e. rw e (among-id l i (omega arith)))

same_number : (x : List ℕ) (l : List (List ℕ)) (i : ℕ) → repeats l ≡ false → among x l ≡ true → i < length l → eqb (position x l) i ≡ same_id x (get_or l i [])
unfolding among position repeats
same_number x [] i r a h = absurd (omega arith)
same_number x (y ∷ l) zero r a h =
    by_cases (same_id x y)
    (λ e. rw e)
    (λ e. rw e (ne_eqb (suc (position x l)) 0 (λ z. omega arith)))
same_number x (y ∷ l) (suc i) r a h =
    let once = or-false (among y l) (repeats l) r in
    by_cases (same_id x y)
    (λ e.
    let q = same_eq x y e in
    let f : same_id x (get_or l i []) ≡ false = by_cases (same_id x (get_or l i [])) (λ t. absurd (true≢false (sym (ap (λ (z : List ℕ). among z l) (sym q ∙ same_eq x (get_or l i []) t) ∙ among-id l i (omega arith)) ∙ once.0))) (λ t. t) in
    rw e (ne_eqb 0 (suc i) (λ z. omega arith) ∙ sym f))
    (λ e. rw e (next (position x l) i ∙ same_number x l i once.1 (rw e at a) (omega arith)))
  where
    next : (m n : ℕ) → eqb (suc m) (suc n) ≡ eqb m n
    next m n = by_cases (eqb m n) (λ t. let q = eqb-true m n t in eq-eqb (suc m) (suc n) (ap suc q) ∙ sym t) (λ t. ne_eqb (suc m) (suc n) (λ q. true≢false (sym (eq-eqb m n (omega arith)) ∙ t)) ∙ sym t)

other_id : (x : List ℕ) (l : List (List ℕ)) (i : ℕ) → among x l ≡ false → i < length l → same_id x (get_or l i []) ≡ false
other_id x l i a h = by_cases (same_id x (get_or l i [])) (λ t. absurd (true≢false (sym (ap (λ (z : List ℕ). among z l) (same_eq x (get_or l i []) t) ∙ among-id l i h) ∙ a))) (λ t. t)

weight_append : (d p t : ℕ) (l m : List Arc) → weight_on d p t (l ++ m) ≡ weight_on d p t l + weight_on d p t m
unfolding weight_on
weight_append d p t [] m = omega arith
weight_append d p t (a ∷ l) m = let i = weight_append d p t l m in omega arith

and_turn : (a b : Bool) → (a && true && b) ≡ (b && a)
and_turn true true = refl
and_turn true false = refl
and_turn false true = refl
and_turn false false = refl

and_same : (a b : Bool) → (a && true && b) ≡ (a && b)
and_same true b = refl
and_same false b = refl

and_not : (a b : Bool) → (a && false && b) ≡ false
and_not true b = refl
and_not false b = refl

module _ (ps ts : List (List ℕ)) (once : repeats (ps ++ ts) ≡ false) (p t : ℕ) (hp : p < length ps) (ht : t < length ts) where
  abbrev place : List ℕ
  place = get_or ps p []

  abbrev transition : List ℕ
  transition = get_or ts t []

  no_place : (x : List ℕ) → among x ts ≡ true → among x ps ≡ false
  no_place x a = no_other x ps ts once a

  no_transition : (x : List ℕ) → among x ps ≡ true → among x ts ≡ false
  no_transition x a = by_cases (among x ts) (λ e. absurd (true≢false (sym a ∙ no_place x e))) (λ e. e)

  is_place : (x : List ℕ) → among x ps ≡ true → eqb (position x ps) p ≡ same_id x place
  is_place x a = same_number x ps p (repeats-front ps ts once) a hp

  is_transition : (x : List ℕ) → among x ts ≡ true → eqb (position x ts) t ≡ same_id x transition
  is_transition x a = same_number x ts t (repeats-back ps ts once) a ht

  -- one arc
  module _ (a : Element) (there : is_none (joined ps ts a) ≡ false) where
    abbrev x : List ℕ
    x = a.source

    abbrev y : List ℕ
    y = a.target

    abbrev n : ℕ
    n = a.number

    one-taken : weight_on 0 p t (joined ps ts a) ≡ counted (same_id x place && same_id y transition) n
    unfolding weight_on
    one-taken = by_cases (among x ps && among y ts)
        (λ e.
        let u = and-true (among x ps) (among y ts) e in
        rw (e, is_place x u.0, is_transition y u.1, and_turn (same_id y transition) (same_id x place)) (plus_none _))
        (λ f. by_cases (among y ps && among x ts)
        (λ e.
        let u = and-true (among y ps) (among x ts) e in
        rw (f, e, other_id x ps p (no_place x u.1) hp, and_not (eqb (position x ts) t) (eqb (position y ps) p)))
        (λ e. absurd (true≢false (rw (f, e) at there))))
      where
        plus_none : (k : ℕ) → k + 0 ≡ k
        plus_none k = omega arith

    one-given : weight_on 1 p t (joined ps ts a) ≡ counted (same_id x transition && same_id y place) n
    unfolding weight_on
    one-given = by_cases (among x ps && among y ts)
        (λ e.
        let u = and-true (among x ps) (among y ts) e in
        rw (e, other_id x ts t (no_transition x u.0) ht, and_not (eqb (position y ts) t) (eqb (position x ps) p)))
        (λ f. by_cases (among y ps && among x ts)
        (λ e.
        let u = and-true (among y ps) (among x ts) e in
        rw (f, e, is_place y u.0, is_transition x u.1, and_same (same_id x transition) (same_id y place)) (plus_none _))
        (λ e. absurd (true≢false (rw (f, e) at there))))
      where
        plus_none : (k : ℕ) → k + 0 ≡ k
        plus_none k = omega arith

  pub taken_drawn : (l : List Element) → any_apart ps ts l ≡ false → weight_on 0 p t (arcs_of ps ts l) ≡ drawn place transition l
  unfolding any_apart arcs_of drawn weight_on
  taken_drawn [] f = refl
  taken_drawn (e ∷ l) f =
      let a = or-false (is_none (joined ps ts e)) (any_apart ps ts l) f in
      let w = weight_append 0 p t (joined ps ts e) (arcs_of ps ts l) in
      w ∙ (λ j. one-taken e a.0 j + taken_drawn l a.1 j)

  pub given-drawn : (l : List Element) → any_apart ps ts l ≡ false → weight_on 1 p t (arcs_of ps ts l) ≡ drawn transition place l
  unfolding any_apart arcs_of drawn weight_on
  given-drawn [] f = refl
  given-drawn (e ∷ l) f =
      let a = or-false (is_none (joined ps ts e)) (any_apart ps ts l) f in
      let w = weight_append 1 p t (joined ps ts e) (arcs_of ps ts l) in
      w ∙ (λ j. one-given e a.0 j + given-drawn l a.1 j)
