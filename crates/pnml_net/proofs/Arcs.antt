-- The arcs of a text that is refused by neither 19 nor 20 fit a plan file.
use Prim.Native.Nat.{ℕ, suc, ◌+◌, ◌≤◌, ◌<◌}
use mathlib.Core.Path.{◌≡◌, refl, sym, ap, subst, ◌∙◌}
use mathlib.Core.Bool.{false, ◌||◌, ◌&&◌, true≢false}
use mathlib.Core.List.{List, [], ◌∷◌, ◌++◌}
use native.Mathlib.Omega.{arith}
use lib.Dec.{ltb}
use lib.ListN.{length}
use borrow.Author.Tests.{ltb-true, ltb-false, lt-ltb, le-ltb}
use Rattle.net.specs.declared.Arc.{Arc}
use Rattle.net.proofs.Numbers.{by_cases, and-true}
use Rattle.file_arcs.specs.Refusal.{key}
use Rattle.file_arcs.specs.Facts.{ArcGood, InRange}
use Rattle.pnml_page.specs.Profile.{Element}
use Rattle.pnml_names.specs.Names.{position, among}
use Rattle.pnml_names.proofs.Ids.{or-false, position-among}
use Rattle.pnml_net.specs.Read.{is_none, any_apart, number_of, sorted}
use Rattle.pnml_net.specs.Named.{joined, arcs_of, any_off, insert, sort_onto}

abbrev head_or : Arc → List Arc → Arc
head_or d [] = d
head_or d (b ∷ l) = b

same_head : {a b : Arc} → b ∷ [] ≡ a ∷ [] → b ≡ a
same_head {a} {b} e = ap (head_or b) e

no_arc : {a : Arc} → ◌≡◌ {A = List Arc} [] (a ∷ []) → ⊥
no_arc e = let z : ◌≡◌ {A = ℕ} 0 1 = cc in omega arith

-- what is known of an arc that joins one of P places and one of T transitions
pub record Known (P T n : ℕ) (a : Arc) : Type 0 where
  pub weight : a.weight ≡ n
  pub transition : a.transition < T
  pub direction : a.direction ≤ 1
  pub place : a.place < P

-- an element is no arc, or one of which that is known
pub data One (places transitions : List (List ℕ)) (e : Element) : Type 0 where
  none : joined places transitions e ≡ [] → One places transitions e
  one : (a : Arc) → joined places transitions e ≡ a ∷ [] → Known (length places) (length transitions) (number_of e) a → One places transitions e

pub one_of : (places transitions : List (List ℕ)) (e : Element) → One places transitions e
one_of places transitions e =
    let x = e.source in
    let y = e.target in
    by_cases (among x places && among y transitions)
    (λ t.
    let u = and-true (among x places) (among y transitions) t in
    one (record { transition = position y transitions; direction = 0; place = position x places; weight = e.number }) (rw t)
    (record { weight = refl; transition = position-among y transitions u.1; direction = omega arith; place = position-among x places u.0 }))
    (λ f. by_cases (among y places && among x transitions)
    (λ t.
    let u = and-true (among y places) (among x transitions) t in
    one (record { transition = position x transitions; direction = 1; place = position y places; weight = e.number }) (rw (f, t))
    (record { weight = refl; transition = position-among x transitions u.1; direction = omega arith; place = position-among y places u.0 }))
    (λ t. none (rw (f, t))))

pub joined-known : (places transitions : List (List ℕ)) (e : Element) {a : Arc} → joined places transitions e ≡ a ∷ [] → Known (length places) (length transitions) (number_of e) a
joined-known places transitions e {a} q = go (one_of places transitions e)
  where
    go : One places transitions e → Known (length places) (length transitions) (number_of e) a
    go (none f) = absurd (no_arc (sym f ∙ q))
    go (one b f k) = subst (Known (length places) (length transitions) (number_of e)) (same_head (sym f ∙ q)) k

-- an arc of a plan of P places and T transitions
pub record Fine (P T : ℕ) (a : Arc) : Type 0 where
  pub good : ArcGood P T a
  pub light : a.weight < 65536

abbrev pub AllFine : ℕ → ℕ → List Arc → Type 0
AllFine P T [] = Unit {0}
AllFine P T (a ∷ l) = Fine P T a × AllFine P T l

pub in_range : (P T : ℕ) (l : List Arc) → AllFine P T l → InRange P T l
in_range P T [] f = tt
in_range P T (a ∷ l) f = (f.0.good, in_range P T l f.1)

-- sorting keeps them
fine_insert : (P T : ℕ) (a : Arc) (l : List Arc) → Fine P T a → AllFine P T l → AllFine P T (insert a l)
unfolding insert
fine_insert P T a [] f g = (f, tt)
fine_insert P T a (b ∷ l) f g =
    by_cases (ltb (key a) (key b))
    (λ e. rw e (f, g))
    (λ e. rw e (g.0, fine_insert P T a l f g.1))

fine_onto : (P T : ℕ) (done l : List Arc) → AllFine P T done → AllFine P T l → AllFine P T (sort_onto done l)
unfolding sort_onto
fine_onto P T done [] f g = f
fine_onto P T done (a ∷ l) f g = fine_onto P T (insert a done) l (fine_insert P T a done g.0 f) g.1

pub fine_sorted : (P T : ℕ) (l : List Arc) → AllFine P T l → AllFine P T (sorted l)
fine_sorted P T l g = fine_onto P T [] l tt g

length-insert : (a : Arc) (l : List Arc) → length (insert a l) ≡ suc (length l)
unfolding insert
length-insert a [] = refl
length-insert a (b ∷ l) = by_cases (ltb (key a) (key b)) (λ e. rw e) (λ e. rw e (ap suc (length-insert a l)))

length-onto : (done l : List Arc) → length (sort_onto done l) ≡ length done + length l
unfolding sort_onto
length-onto done [] = omega arith
length-onto done (a ∷ l) = let i = length-onto (insert a done) l in let j = length-insert a done in omega arith

pub length-sorted : (l : List Arc) → length (sorted l) ≡ length l
length-sorted l = length-onto [] l ∙ omega arith

-- a weight that is not off
pub not-off : (least most : ℕ) (e : Element) (l : List Element) → any_off least most (e ∷ l) ≡ false → (least ≤ number_of e) × (number_of e ≤ most) × (any_off least most l ≡ false)
unfolding any_off
not-off least most e l f =
    let a = or-false (ltb (number_of e) least || ltb most (number_of e)) (any_off least most l) f in
    let b = or-false (ltb (number_of e) least) (ltb most (number_of e)) a.0 in
    (ltb-false (number_of e) least b.0, ltb-false most (number_of e) b.1, a.1)

next-ltb : (m n : ℕ) → ltb m n ≡ ltb (suc m) (suc n)
next-ltb m n =
    by_cases (ltb m n)
    (λ t. t ∙ sym (lt-ltb (suc m) (suc n) (let g = ltb-true m n t in omega arith)))
    (λ f. f ∙ sym (le-ltb (suc m) (suc n) (let g = ltb-false m n f in omega arith)))

module _ (places transitions : List (List ℕ)) where
  -- the arcs of elements that all join, of which no weight is off
  pub arcs_fine : (l : List Element) → any_apart places transitions l ≡ false → any_off 1 65535 l ≡ false → AllFine (length places) (length transitions) (arcs_of places transitions l)
  unfolding any_apart arcs_of
  arcs_fine [] f g = tt
  arcs_fine (e ∷ l) f g =
      let a = or-false (is_none (joined places transitions e)) (any_apart places transitions l) f in
      let b = not-off 1 65535 e l g in
      go (one_of places transitions e) a.0 (arcs_fine l a.1 b.2) b.0 b.1
    where
      go : One places transitions e → is_none (joined places transitions e) ≡ false → AllFine (length places) (length transitions) (arcs_of places transitions l) → 1 ≤ number_of e → number_of e ≤ 65535
          → AllFine (length places) (length transitions) (joined places transitions e ++ arcs_of places transitions l)
      go (none q) h i m n = absurd (true≢false (sym (ap is_none q) ∙ h))
      go (one x q k) h i m n =
          let w = k.weight in
          rw q (record { good = record { direction = k.direction; place = k.place; transition = k.transition; weight = omega arith }; light = omega arith }, i)

  pub arcs_count : (l : List Element) → any_apart places transitions l ≡ false → length (arcs_of places transitions l) ≡ length l
  unfolding any_apart arcs_of
  arcs_count [] f = refl
  arcs_count (e ∷ l) f =
      let a = or-false (is_none (joined places transitions e)) (any_apart places transitions l) f in
      go (one_of places transitions e) a.0 (arcs_count l a.1)
    where
      go : One places transitions e → is_none (joined places transitions e) ≡ false → length (arcs_of places transitions l) ≡ length l
          → length (joined places transitions e ++ arcs_of places transitions l) ≡ suc (length l)
      go (none q) h i = absurd (true≢false (sym (ap is_none q) ∙ h))
      go (one x q k) h i = rw q (ap suc i)

  -- elements of which one does not join have fewer arcs than they are
  few_arcs : (l : List Element) → length (arcs_of places transitions l) ≤ length l
  unfolding arcs_of
  few_arcs [] = omega arith
  few_arcs (e ∷ l) = go (one_of places transitions e) (few_arcs l)
    where
      go : One places transitions e → length (arcs_of places transitions l) ≤ length l → length (joined places transitions e ++ arcs_of places transitions l) ≤ suc (length l)
      go (none q) i = rw q (omega arith)
      go (one x q k) i = rw q (omega arith)

  pub apart_is : (l : List Element) → any_apart places transitions l ≡ ltb (length (arcs_of places transitions l)) (length l)
  unfolding any_apart arcs_of
  apart_is [] = refl
  apart_is (e ∷ l) = go (one_of places transitions e) (few_arcs l) (apart_is l)
    where
      go : One places transitions e → length (arcs_of places transitions l) ≤ length l → any_apart places transitions l ≡ ltb (length (arcs_of places transitions l)) (length l)
          → (is_none (joined places transitions e) || any_apart places transitions l) ≡ ltb (length (joined places transitions e ++ arcs_of places transitions l)) (suc (length l))
      go (none q) h i = rw q (sym (lt-ltb (length (arcs_of places transitions l)) (suc (length l)) (omega arith)))
      go (one x q k) h i = rw q (i ∙ next-ltb (length (arcs_of places transitions l)) (length l))
