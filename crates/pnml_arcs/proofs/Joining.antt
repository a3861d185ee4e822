-- The number of an id tells what it is the id of.
use Prim.Native.Nat.{ℕ, ◌+◌, ◌-◌, ◌≤◌, ◌<◌}
use mathlib.Core.Path.{◌≡◌, refl, sym, ap, ◌∙◌}
use mathlib.Core.Bool.{Bool, true, false, ◌&&◌}
use mathlib.Core.List.{List, [], ◌∷◌, ◌++◌, append_assoc}
use native.Mathlib.Omega.{arith}
use lib.Dec.{ltb, leb}
use lib.ListN.{length, length-append, length-map}
use borrow.Author.Tests.{lt-ltb, le-ltb, le-leb, lt-leb, leb-true, ltb-true}
use Rattle.net.specs.declared.Arc.{Arc}
use Rattle.net.proofs.Numbers.{by_cases, and-true}
use Rattle.pnml_text.specs.Rest
use Rattle.pnml_text.specs.Rest.{more, rest_at}
use Rattle.pnml_page.specs.Meant.{id_at, HasEnds}
use Rattle.pnml_page.specs.Steps
use Rattle.pnml_page.specs.Steps.{an_arc}
use Rattle.pnml_page.specs.declared.Ends.{Ends}
use Rattle.pnml_page.proofs.Tags.{id-at}
use Rattle.pnml_names.specs.Names.{position, among, repeats}
use Rattle.pnml_names.specs.Tables.{ids_in, wanted_read}
use Rattle.pnml_names.specs.declared.Which.TheVariants.{Places, Transitions, Arcs}
use Rattle.pnml_names.proofs.Ids.{among-append, position-among, position_in, position-not, no_other}
use Rattle.pnml_net.specs.Named
use Rattle.pnml_net.specs.Read.{read_of, id_of, entries, ids}
use Rattle.pnml_net.specs.Named.{joined}
use Rattle.pnml_list.specs.Listing.{Listing}
use Rattle.pnml_index.specs.Rows.{Indexed}
use Rattle.pnml_arcs.specs.Ends.{between_at}

-- in a list in which no id stands twice, an id is one of a part of it where its number is from one limit to another
module _ (x : List ℕ) (l m r : List (List ℕ)) (once : repeats (l ++ (m ++ r)) ≡ false) where
  abbrev i : ℕ
  i = position x (l ++ (m ++ r))

  in_part : among x m ≡ true → i ≡ length l + position x m
  in_part e =
      let o : among x l ≡ false = no_other x l (m ++ r) once (among-append x m r ∙ rw e) in
      position-not x l (m ++ r) o ∙ ap (λ (n : ℕ). length l + n) (position_in x m r e)

  pub part_at : among x m ≡ true → i - length l ≡ position x m
  part_at e = let q = in_part e in omega arith

  pub part-test : (leb (length l) i && ltb i (length l + length m)) ≡ among x m
  part-test = by_cases (among x m)
      (λ e.
      let q = in_part e in
      let p = position-among x m e in
      rw (le-leb (length l) i (omega arith), lt-ltb i (length l + length m) (omega arith)) (sym e))
      (λ e. by_cases (among x l)
      (λ f.
      let q = position_in x l (m ++ r) f in
      let p = position-among x l f in
      rw (lt-leb (length l) i (omega arith)) (sym e))
      (λ f.
      let q = position-not x l (m ++ r) f in
      let p = position-not x m r e in
      rw (le-ltb i (length l + length m) (omega arith)) (sym (and_no (leb (length l) i)) ∙ sym e)))
    where
      and_no : (b : Bool) → false ≡ (b && false)
      and_no true = refl
      and_no false = refl

-- the table of ids
pub listing_long : {s table : List ℕ} {P T : ℕ} → Listing s table P T → length table ≡ 2 + P + T + length (entries Arcs s)
unfolding Named.names read_of
listing_long {s} {table} {P} {T} g =
    let a = length-append (ids Places s) (ids Transitions s ++ ids Arcs s) in
    let b = length-append (ids Transitions s) (ids Arcs s) in
    let c = length-map (entries Places s) id_of in
    let d = length-map (entries Transitions s) id_of in
    let e = length-map (entries Arcs s) id_of in
    omega (arith, length-map table (id_at s), ap length g.ids, g.place_count, g.transition_count)

and_four : (a b d e : Bool) → (a && b && d && e) ≡ ((a && b) && (d && e))
and_four true true d e = refl
and_four true false d e = refl
and_four false b d e = refl

-- four tests that pass
pub all-four : (i j m e : ℕ) → (leb 2 i && ltb i m && leb m j && ltb j e) ≡ true → (2 ≤ i) × (i < m) × (m ≤ j) × (j < e)
all-four i j m e t =
    let a = and-true (leb 2 i && ltb i m) (leb m j && ltb j e) (sym (and_four (leb 2 i) (ltb i m) (leb m j) (ltb j e)) ∙ t) in
    let b = and-true (leb 2 i) (ltb i m) a.0 in
    let d = and-true (leb m j) (ltb j e) a.1 in
    (leb-true 2 i b.0, ltb-true i m b.1, leb-true m j d.0, ltb-true j e d.1)

-- a number past the places and transitions is an end of no arc
pub between_out : (P T i j n : ℕ) → ((i < 2 + P + T) × (j < 2 + P + T) → ⊥) → [] ≡ between_at P T i j n
between_out P T i j n h =
    by_cases (leb 2 i && ltb i (2 + P) && leb (2 + P) j && ltb j (2 + P + T))
    (λ t. let q = all-four i j (2 + P) (2 + P + T) t in absurd (h (omega (arith, q.1), q.3)))
    (λ f. by_cases (leb 2 j && ltb j (2 + P) && leb (2 + P) i && ltb i (2 + P + T))
    (λ t. let q = all-four j i (2 + P) (2 + P + T) t in absurd (h (q.3, omega (arith, q.1))))
    (λ g. rw (f, g)))

module _ (s : List ℕ) {table : List ℕ} {P T : ℕ} (g : Listing s table P T) {head next : List ℕ} (h : Indexed s table head next) where
  abbrev hs : List (List ℕ)
  hs = Rest.id_of (Steps.net (more s)) ∷ Rest.id_of (Steps.page (more s)) ∷ []

  abbrev ps : List (List ℕ)
  ps = ids Places s

  abbrev ts : List (List ℕ)
  ts = ids Transitions s

  once : repeats (hs ++ (ps ++ (ts ++ ids Arcs s))) ≡ false
  unfolding Named.names read_of
  once = sym (ap repeats g.ids) ∙ h.once

  once_2 : repeats ((hs ++ ps) ++ (ts ++ ids Arcs s)) ≡ false
  once_2 = ap repeats (append_assoc hs ps (ts ++ ids Arcs s)) ∙ once

  count_p : length ps ≡ P
  count_p = length-map (entries Places s) id_of ∙ sym g.place_count

  count_t : length ts ≡ T
  count_t = length-map (entries Transitions s) id_of ∙ sym g.transition_count

  module _ (x : List ℕ) {i : ℕ} (e : i ≡ position x (ids_in s table)) where
    place-i : i ≡ position x (hs ++ (ps ++ (ts ++ ids Arcs s)))
    unfolding Named.names read_of
    place-i = e ∙ ap (position x) g.ids

    transition-i : i ≡ position x ((hs ++ ps) ++ (ts ++ ids Arcs s))
    transition-i = place-i ∙ sym (ap (position x) (append_assoc hs ps (ts ++ ids Arcs s)))

    is_place : (leb 2 i && ltb i (2 + P)) ≡ among x ps
    is_place = (λ j. leb 2 (place-i j) && ltb (place-i j) (2 + sym count_p j)) ∙ part-test x hs ps (ts ++ ids Arcs s) once

    place_at_lem : among x ps ≡ true → i - 2 ≡ position x ps
    place_at_lem t = ap (λ (n : ℕ). n - 2) place-i ∙ part_at x hs ps (ts ++ ids Arcs s) once t

    front : 2 + P ≡ length (hs ++ ps)
    front = let q = count_p in omega (arith, length-append hs ps)

    is_transition : (leb (2 + P) i && ltb i (2 + P + T)) ≡ among x ts
    is_transition = (λ j. leb (front j) (transition-i j) && ltb (transition-i j) (front j + sym count_t j)) ∙ part-test x (hs ++ ps) ts (ids Arcs s) once_2

    transition-at : among x ts ≡ true → i - (2 + P) ≡ position x ts
    transition-at t = (λ j. transition-i j - front j) ∙ part_at x (hs ++ ps) ts (ids Arcs s) once_2 t

  module _ (a b : List ℕ) (n : ℕ) {i j : ℕ} (ei : i ≡ position a (ids_in s table)) (ej : j ≡ position b (ids_in s table)) where
    one_way : (x y : List ℕ) {u v : ℕ} → u ≡ position x (ids_in s table) → v ≡ position y (ids_in s table)
        → (leb 2 u && ltb u (2 + P) && leb (2 + P) v && ltb v (2 + P + T)) ≡ (among x ps && among y ts)
    one_way x y {u} {v} eu ev =
        and_four (leb 2 u) (ltb u (2 + P)) (leb (2 + P) v) (ltb v (2 + P + T)) ∙ (λ k. is_place x eu k && is_transition y ev k)

    pub between_is : between_at P T i j n ≡ joined ps ts (an_arc [] a b n)
    between_is = by_cases (among a ps && among b ts)
        (λ t.
        let u = and-true (among a ps) (among b ts) t in
        rw (one_way a b ei ej ∙ t, t)
        (λ k. record { transition = transition-at b ej u.1 k; direction = 0; place = place_at_lem a ei u.0 k; weight = n } ∷ []))
        (λ f. by_cases (among b ps && among a ts)
        (λ t.
        let u = and-true (among b ps) (among a ts) t in
        rw (one_way a b ei ej ∙ f, f, one_way b a ej ei ∙ t, t)
        (λ k. record { transition = transition-at a ei u.1 k; direction = 1; place = place_at_lem b ej u.0 k; weight = n } ∷ []))
        (λ t. rw (one_way a b ei ej ∙ f, f, one_way b a ej ei ∙ t, t)))

  -- the arc at a position, by the numbers of its ends
  pub join_is : (at : ℕ) {d : Ends} {i j : ℕ} {r : List Arc} → HasEnds s d (rest_at s at) → i ≡ position (id_at s d.source) (ids_in s table) → j ≡ position (id_at s d.target) (ids_in s table)
      → r ≡ between_at P T i j d.number → r ≡ joined ps ts (wanted_read Arcs s at)
  join_is at {d} he ei ej er =
      let a = id-at s d.source ∙ ap Rest.id_of he.source in
      let b = id-at s d.target ∙ ap Rest.id_of he.target in
      er ∙ between_is (id_at s d.source) (id_at s d.target) d.number ei ej
      ∙ (λ k. joined ps ts (an_arc [] (a k) (b k) (he.number k)))
