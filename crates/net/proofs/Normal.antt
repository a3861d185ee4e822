-- Joined arcs weigh what the arcs weigh, so a plan and its normal form fare alike.
use Prim.Native.Nat.{ℕ, suc, ◌+◌, ◌-◌, ◌<◌, ◌≤◌}
use mathlib.Core.Bool.{Bool, true, false, ◌&&◌}
use mathlib.Core.List.{List, [], ◌∷◌}
use mathlib.Core.Path.{◌≡◌, refl, sym, ap, subst, ◌∙◌}
use native.Mathlib.Omega.{arith}
use lib.Dec.{T, eqb, ltb}
use borrow.Author.Tests.{eqb-true}
use Rattle.net.specs.Numbers.{first}
use Rattle.net.specs.Net.{Marking, Net, passes, short, full, counted, joins, weight_on, input, output, fire, capped, Fires, Enabled, Supplied, WithinCaps, after, short_place, full_place, test_inputs, test_caps, then_by, test_firing, replay_from}
use Rattle.net.specs.Normal.{heavier, joined_to, joined, normal_of, SameNet, FaresAlike}
use Rattle.net.specs.declared.Arc.{Arc}
use Rattle.net.proofs.Numbers.{by_cases, and-true}

-- ---- two arcs that join the same two in the same direction

pub record Parallel (a b : Arc) : Type 0 where
  pub transition : a.transition ≡ b.transition
  pub direction : a.direction ≡ b.direction
  pub place : a.place ≡ b.place

pub joins-parallel : (a b : Arc) → joins a.direction a.place a.transition b ≡ true → Parallel a b
joins-parallel a b e =
    let two = and-true (eqb b.transition a.transition && eqb b.direction a.direction) (eqb b.place a.place) e in
    let one = and-true (eqb b.transition a.transition) (eqb b.direction a.direction) two.0 in
    record {
      transition = sym (eqb-true b.transition a.transition one.0);
      direction = sym (eqb-true b.direction a.direction one.1);
      place = sym (eqb-true b.place a.place two.1);
    }

pub same_joins : (d p t : ℕ) (a b : Arc) → Parallel a b → joins d p t a ≡ joins d p t b
same_joins d p t a b x = λ i. eqb (x.transition i) t && eqb (x.direction i) d && eqb (x.place i) p

-- ---- one arc before joined arcs

pub joined-one : (a b : Arc) (rest : List Arc) → joins a.direction a.place a.transition b ≡ true → joined_to a (b ∷ rest) ≡ heavier a b.weight ∷ rest
unfolding joined_to
joined-one a b rest e = rw (e, joined_to)

pub joined-more : (a b : Arc) (rest : List Arc) → joins a.direction a.place a.transition b ≡ false → joined_to a (b ∷ rest) ≡ a ∷ b ∷ rest
unfolding joined_to
joined-more a b rest e = rw (e, joined_to)

module _ (d p t : ℕ) where
  counted-sum : (b : Bool) (x y : ℕ) → counted b (x + y) ≡ counted b x + counted b y
  counted-sum true x y = refl
  counted-sum false x y = refl

  weight_to : (a : Arc) (l : List Arc) → weight_on d p t (joined_to a l) ≡ weight_on d p t (a ∷ l)
  unfolding weight_on joined_to
  weight_to a [] = refl
  weight_to a (b ∷ rest) =
      by_cases (joins a.direction a.place a.transition b)
      (λ e. let same = same_joins d p t a b (joins-parallel a b e) in
      ap (weight_on d p t) (joined-one a b rest e)
      ∙ (let s = counted-sum (joins d p t a) a.weight b.weight in
      let k = ap (λ (x : Bool). counted x b.weight) same in
      omega (arith, s, k)))
      (λ e. ap (weight_on d p t) (joined-more a b rest e))

  pub weight_joined : (l : List Arc) → weight_on d p t (joined l) ≡ weight_on d p t l
  unfolding weight_on joined
  weight_joined [] = refl
  weight_joined (a ∷ rest) = weight_to a (joined rest) ∙ ap (λ (w : ℕ). counted (joins d p t a) a.weight + w) (weight_joined rest)

-- ---- firing goes by in and out alone

module _ (N : Net) where
  abbrev N' : Net
  N' = normal_of N

  inputs : (p t : ℕ) → input N p t ≡ input N' p t
  unfolding input normal_of
  inputs p t = sym (weight_joined 0 p t N.arcs)

  outputs : (p t : ℕ) → output N p t ≡ output N' p t
  unfolding output normal_of
  outputs p t = sym (weight_joined 1 p t N.arcs)

  pub same_net : SameNet N N'
  unfolding normal_of
  same_net = record { places = refl; transitions = refl; markings = λ p l. refl; caps = λ p l. refl; inputs = λ p t l m. inputs p t; outputs = λ p t l m. outputs p t }

  same_fire : (t : ℕ) (M : Marking) → fire N t M ≡ fire N' t M
  unfolding fire
  same_fire t M = λ i p. M p - inputs p t i + outputs p t i

  same_inputs : (t : ℕ) (M : Marking) → test_inputs N t M ≡ test_inputs N' t M
  unfolding test_inputs short_place normal_of
  same_inputs t M = λ i.
      let p = first (λ q. ltb (M q) (inputs q t i)) 0 N.places in
      elim (ltb p N.places) [ true ↦ short p (inputs p t i - M p) | false ↦ passes ]

  same_caps : (t : ℕ) (M : Marking) → test_caps N t M ≡ test_caps N' t M
  unfolding test_caps full_place capped normal_of
  same_caps t M = λ i.
      let p = first (λ q. ltb 0 (N.cap q) && ltb (N.cap q) (same_fire t M i q)) 0 N.places in
      elim (ltb p N.places) [ true ↦ full p (same_fire t M i p - N.cap p) | false ↦ passes ]

  same_test : (t : ℕ) (M : Marking) → test_firing N t M ≡ test_firing N' t M
  unfolding test_firing
  same_test t M = λ i. then_by (same_inputs t M i) (same_caps t M i)

  same_after : (M : Marking) (ts : List ℕ) → after N M ts ≡ after N' M ts
  unfolding after
  same_after M [] = refl
  same_after M (t ∷ ts) = same_after (fire N t M) ts ∙ ap (λ (m : Marking). after N' m ts) (same_fire t M)

  same_replay : (i : ℕ) (M : Marking) (ts : List ℕ) → replay_from N i M ts ≡ replay_from N' i M ts
  unfolding replay_from
  same_replay i M [] = refl
  same_replay i M (t ∷ ts) = λ k. elim (same_test t M k) [
    | passes ↦ (same_replay (suc i) (fire N t M) ts ∙ ap (λ (m : Marking). replay_from N' (suc i) m ts) (same_fire t M)) k
    | short p n ↦ record { answer = short i p n; marking = M }
    | full p n ↦ record { answer = full i p n; marking = M }
  ]

  same_enabled : (t : ℕ) (M : Marking) → Enabled N t M ≡ Enabled N' t M
  unfolding Enabled Supplied WithinCaps capped normal_of
  same_enabled t M = λ i. ((p : ℕ) → p < N.places → inputs p t i ≤ M p) × ((p : ℕ) → p < N.places → T (ltb 0 (N.cap p)) → same_fire t M i p ≤ N.cap p)

  same_fires : (M : Marking) (ts : List ℕ) → Fires N M ts ≡ Fires N' M ts
  unfolding Fires normal_of
  same_fires M [] = refl
  same_fires M (t ∷ ts) = λ i. (t < N.transitions) × same_enabled t M i × (same_fires (fire N t M) ts ∙ ap (λ (m : Marking). Fires N' m ts) (same_fire t M)) i

  pub fares_alike : FaresAlike N N'
  unfolding normal_of
  fares_alike = record {
    start = refl;
    fires = λ M ts. (subst (λ (X : Type 0). X) (same_fires M ts), subst (λ (X : Type 0). X) (sym (same_fires M ts)));
    ends = same_after;
    replays = same_replay;
  }

-- ---- the same net, the same fate: both ways, and through a third

pub same_back : {N N' : Net} → SameNet N N' → SameNet N' N
same_back x = record {
  places = sym x.places;
  transitions = sym x.transitions;
  markings = λ p l. sym (x.markings p (rw x.places l));
  caps = λ p l. sym (x.caps p (rw x.places l));
  inputs = λ p t l m. sym (x.inputs p t (rw x.places l) (rw x.transitions m));
  outputs = λ p t l m. sym (x.outputs p t (rw x.places l) (rw x.transitions m));
}

pub same_through : {N N' N'' : Net} → SameNet N N' → SameNet N' N'' → SameNet N N''
same_through x y = record {
  places = x.places ∙ y.places;
  transitions = x.transitions ∙ y.transitions;
  markings = λ p l. x.markings p l ∙ y.markings p (rw x.places at l);
  caps = λ p l. x.caps p l ∙ y.caps p (rw x.places at l);
  inputs = λ p t l m. x.inputs p t l m ∙ y.inputs p t (rw x.places at l) (rw x.transitions at m);
  outputs = λ p t l m. x.outputs p t l m ∙ y.outputs p t (rw x.places at l) (rw x.transitions at m);
}

pub alike_back : {N N' : Net} → FaresAlike N N' → FaresAlike N' N
alike_back x = record {
  start = sym x.start;
  fires = λ M ts. ((x.fires M ts).1, (x.fires M ts).0);
  ends = λ M ts. sym (x.ends M ts);
  replays = λ i M ts. sym (x.replays i M ts);
}

pub alike_through : {N N' N'' : Net} → FaresAlike N N' → FaresAlike N' N'' → FaresAlike N N''
alike_through x y = record {
  start = x.start ∙ y.start;
  fires = λ M ts. (λ f. (y.fires M ts).0 ((x.fires M ts).0 f), λ f. (x.fires M ts).1 ((y.fires M ts).1 f));
  ends = λ M ts. x.ends M ts ∙ y.ends M ts;
  replays = λ i M ts. x.replays i M ts ∙ y.replays i M ts;
}
