-- Sorted arcs do not fall, parallels keep their order, and the sums of weights stay.
use Prim.Native.Nat.{ℕ, ◌+◌, ◌≤◌, ◌<◌}
use mathlib.Core.Path.{◌≡◌, refl, sym, ap, ◌∙◌}
use mathlib.Core.Bool.{Bool, true, false}
use mathlib.Core.List.{List, [], ◌∷◌, ◌++◌, map, append-nil, append_assoc}
use native.Mathlib.Omega.{arith}
use lib.Dec.{ltb, eqb}
use borrow.Author.Tests.{ltb-true, ltb-false, eqb-true, ne_eqb}
use Rattle.net.specs.Net.{counted, joins, weight_on}
use Rattle.net.specs.declared.Arc.{Arc}
use Rattle.net.proofs.Numbers.{by_cases}
use Rattle.file_arcs.specs.Refusal.{key}
use Rattle.file_arcs.specs.Facts.{OrderedFrom}
use Rattle.pnml_names.specs.Names.{pick}
use Rattle.pnml_net.specs.Drawn.{parallels}
use Rattle.pnml_net.specs.Read.{sorted}
use Rattle.pnml_net.specs.Named.{insert, sort_onto}

-- a list with one more before it, where the test holds
abbrev if_kept : Bool → Arc → List Arc → List Arc
if_kept t a l = pick t (a ∷ l) l

insert-ordered : (least : ℕ) (a : Arc) (l : List Arc) → least ≤ key a → OrderedFrom least (map key l) → OrderedFrom least (map key (insert a l))
unfolding insert
insert-ordered least a [] h o = (h, tt)
insert-ordered least a (b ∷ l) h o =
    by_cases (ltb (key a) (key b))
    (λ e. let g = ltb-true (key a) (key b) e in rw e (h, (omega arith, o.1)))
    (λ e. let g = ltb-false (key a) (key b) e in rw e (o.0, insert-ordered (key b) a l g o.1))

onto_ordered : (done l : List Arc) → OrderedFrom 0 (map key done) → OrderedFrom 0 (map key (sort_onto done l))
unfolding sort_onto
onto_ordered done [] o = o
onto_ordered done (a ∷ l) o = onto_ordered (insert a done) l (insert-ordered 0 a done (omega arith) o)

pub sorted-ordered : (l : List Arc) → OrderedFrom 0 (map key (sorted l))
sorted-ordered l = onto_ordered [] l tt

none_below : (k least : ℕ) (l : List Arc) → k < least → OrderedFrom least (map key l) → parallels k l ≡ []
unfolding parallels
none_below k least [] h o = refl
none_below k least (b ∷ l) h o =
    let g : eqb (key b) k ≡ false = ne_eqb (key b) k (λ e. (let q = o.0 in omega arith)) in
    rw g (none_below k (key b) l (let q = o.0 in omega arith) o.1)

insert-stable : (k least : ℕ) (a : Arc) (l : List Arc) → OrderedFrom least (map key l) → parallels k (insert a l) ≡ parallels k l ++ if_kept (eqb (key a) k) a []
unfolding insert parallels
insert-stable k least a [] o = refl
insert-stable k least a (b ∷ l) o =
    by_cases (ltb (key a) (key b))
    (λ e.
    let g = ltb-true (key a) (key b) e in
    by_cases (eqb (key a) k)
    (λ f.
    let q = eqb-true (key a) k f in
    let n : parallels k (b ∷ l) ≡ [] = none_below k (key b) (b ∷ l) (omega arith) (omega arith, o.1) in
    rw (e, f) (ap (λ (y : List Arc). a ∷ y) n ∙ sym (ap (λ (y : List Arc). y ++ (a ∷ [])) n)))
    (λ f. rw (e, f) (sym (append-nil (parallels k (b ∷ l))))))
    (λ e. rw e (more (eqb (key b) k) (insert-stable k (key b) a l o.1)))
  where
    more : (t : Bool) → parallels k (insert a l) ≡ parallels k l ++ if_kept (eqb (key a) k) a []
        → if_kept t b (parallels k (insert a l)) ≡ if_kept t b (parallels k l) ++ if_kept (eqb (key a) k) a []
    more true i = ap (λ (y : List Arc). b ∷ y) i
    more false i = i

onto_stable : (k : ℕ) (done l : List Arc) → OrderedFrom 0 (map key done) → parallels k (sort_onto done l) ≡ parallels k done ++ parallels k l
unfolding sort_onto parallels
onto_stable k done [] o = sym (append-nil (parallels k done))
onto_stable k done (a ∷ l) o =
    onto_stable k (insert a done) l (insert-ordered 0 a done (omega arith) o)
    ∙ ap (λ (y : List Arc). y ++ parallels k l) (insert-stable k 0 a done o)
    ∙ append_assoc (parallels k done) (if_kept (eqb (key a) k) a []) (parallels k l)
    ∙ ap (λ (y : List Arc). parallels k done ++ y) (one (eqb (key a) k))
  where
    one : (t : Bool) → if_kept t a [] ++ parallels k l ≡ if_kept t a (parallels k l)
    one true = refl
    one false = refl

pub sorted-stable : (k : ℕ) (l : List Arc) → parallels k (sorted l) ≡ parallels k l
unfolding parallels
sorted-stable k l = onto_stable k [] l tt

-- the sorted arcs have the sums that the arcs have
module _ (d p t : ℕ) where
  sum-insert : (a : Arc) (l : List Arc) → weight_on d p t (insert a l) ≡ counted (joins d p t a) a.weight + weight_on d p t l
  unfolding insert weight_on
  sum-insert a [] = refl
  sum-insert a (b ∷ l) =
      by_cases (ltb (key a) (key b))
      (λ e. rw e)
      (λ e. rw e (let i = sum-insert a l in omega arith))

  sum-onto : (done l : List Arc) → weight_on d p t (sort_onto done l) ≡ weight_on d p t done + weight_on d p t l
  unfolding sort_onto weight_on
  sum-onto done [] = omega arith
  sum-onto done (a ∷ l) = let i = sum-onto (insert a done) l in let j = sum-insert a done in omega arith

  pub sum-sorted : (l : List Arc) → weight_on d p t (sorted l) ≡ weight_on d p t l
  unfolding weight_on
  sum-sorted l = sum-onto [] l ∙ omega arith
