-- Laws of the profile's steps. Assumes nothing.
use Prim.Native.Nat.{ℕ, suc, ◌≤◌, ◌<◌}
use mathlib.Core.Path.{◌≡◌, refl, sym, ap, ◌∙◌}
use mathlib.Core.Bool.{Bool, true, false}
use mathlib.Core.List.{List, []}
use native.Mathlib.Omega.{arith}
use lib.Dec.{eqb, leb}
use lib.ListN.{length, drop}
use Rattle.pnml_text.specs.Words.{bytes}
use Rattle.pnml_text.specs.Rest.{Rest, outside, more, word, spaces, id, rest_at, id_of, front}
use Rattle.pnml_page.specs.Steps
use Rattle.pnml_page.specs.Meant.{Reads, HasEnds, id_at, meant}
use Rattle.pnml_page.specs.declared.Found.{Found}
use Rattle.pnml_page.specs.declared.Ends.{Ends}
use Rattle.pnml_page.specs.declared.Element.TheVariants.{Place, Transition, Arc}
use lib.Arith.{le-zero}
use borrow.Author.Tests.{eqb-true, eqb-false, eq-eqb, ne_eqb, leb-true, leb-false}
use lib.Seq.{drop-length, drop-cons}
use Rattle.net.proofs.Numbers.{by_cases}
use Rattle.pnml_page.proofs.Sizes.{size, before-within, place-size, transition-size, arc-size}
use Rattle.pnml_text.proofs.Runs.{left-rest, rest_in, rest_out}
use Rattle.pnml_text.specs.declared.Run.TheVariants.{Id}
use Rattle.pnml_page.specs.Steps.{Number, Holds, held, label, tail, place, or_missing, or_closed, ended}
use Rattle.pnml_page.specs.declared.Numbered.{Numbered}

module _ (s : List ℕ) (a : ℕ) (start stop : List ℕ) (missing : ℕ) where
  pub label-none : (inside : ℕ) (r : Numbered) → rest_at s inside ≡ word start (rest_at s a) → length s < inside
      → r.number ≡ missing → r.next ≡ a → Holds s r (label start stop missing (rest_at s a))
  unfolding label
  label-none inside r e o n x =
      let w : word start (rest_at s a) ≡ outside = sym e ∙ rest_out s inside o in
      record {
        number = n ∙ ap (λ (y : Rest). (or_missing missing stop (rest_at s a) y).number) (sym w);
        rest = ap (rest_at s) x ∙ ap (λ (y : Rest). (or_missing missing stop (rest_at s a) y).rest) (sym w);
      }

  pub label-some : (inside : ℕ) {r : Numbered} → rest_at s inside ≡ word start (rest_at s a) → inside ≤ length s
      → Holds s r (held stop (rest_at s inside)) → Holds s r (label start stop missing (rest_at s a))
  unfolding label
  label-some inside {r} e i h =
      let w : or_missing missing stop (rest_at s a) (word start (rest_at s a)) ≡ held stop (rest_at s inside) =
      ap (or_missing missing stop (rest_at s a)) (sym e ∙ rest_in s inside i) ∙ ap (held stop) (sym (rest_in s inside i)) in
      record {
        number = h.number ∙ ap (λ (y : Number). y.number) (sym w);
        rest = h.rest ∙ ap (λ (y : Number). y.rest) (sym w);
      }

  module _ (finish : List ℕ) where
    pub tail-closed : (closed : ℕ) (r : Numbered) → rest_at s closed ≡ word (bytes "\"/>") (rest_at s a) → closed ≤ length s
        → r.number ≡ missing → r.next ≡ closed → Holds s r (tail start stop finish missing (rest_at s a))
    unfolding tail
    tail-closed closed r e i n x =
        let w : or_closed missing (word (bytes "\"/>") (rest_at s a)) (ended finish (label start stop missing (spaces (word (bytes "\">") (rest_at s a))))) ≡ record { number = missing; rest = more (drop closed s) } =
        ap (λ (y : Rest). or_closed missing y (ended finish (label start stop missing (spaces (word (bytes "\">") (rest_at s a)))))) (sym e ∙ rest_in s closed i) in
        record {
          number = n ∙ ap (λ (y : Number). y.number) (sym w);
          rest = ap (rest_at s) x ∙ rest_in s closed i ∙ ap (λ (y : Number). y.rest) (sym w);
        }

    pub tail-open : (closed opened inside : ℕ) {n : Numbered} (r : Numbered) → rest_at s closed ≡ word (bytes "\"/>") (rest_at s a) → length s < closed
        → rest_at s opened ≡ word (bytes "\">") (rest_at s a)
        → rest_at s inside ≡ spaces (rest_at s opened)
        → Holds s n (label start stop missing (rest_at s inside))
        → rest_at s r.next ≡ word finish (rest_at s n.next)
        → r.number ≡ n.number
        → Holds s r (tail start stop finish missing (rest_at s a))
    unfolding tail
    tail-open closed opened inside {n} r e o e1 e2 h e3 f =
        let l : label start stop missing (rest_at s inside) ≡ label start stop missing (spaces (word (bytes "\">") (rest_at s a))) =
        ap (label start stop missing) (e2 ∙ ap spaces e1) in
        let w : or_closed missing (word (bytes "\"/>") (rest_at s a)) (ended finish (label start stop missing (spaces (word (bytes "\">") (rest_at s a))))) ≡ ended finish (label start stop missing (spaces (word (bytes "\">") (rest_at s a)))) =
        ap (λ (y : Rest). or_closed missing y (ended finish (label start stop missing (spaces (word (bytes "\">") (rest_at s a)))))) (sym e ∙ rest_out s closed o) in
        record {
          number = f ∙ h.number ∙ ap (λ (y : Number). y.number) l ∙ ap (λ (y : Number). y.number) (sym w);
          rest = e3 ∙ ap (word finish) (h.rest ∙ ap (λ (y : Number). y.rest) l) ∙ ap (λ (y : Number). y.rest) (sym w);
        }

pub place-as : (s : List ℕ) (a finish : ℕ) {r : Numbered} → rest_at s finish ≡ id (rest_at s a)
    → Holds s r (tail (bytes "<initialMarking>") (bytes "</initialMarking>") (bytes "</place>") 0 (rest_at s finish))
    → Holds s r (place (rest_at s a))
unfolding place
place-as s a finish {r} e h =
    let l = ap (tail (bytes "<initialMarking>") (bytes "</initialMarking>") (bytes "</place>") 0) e in
    record {
      number = h.number ∙ ap (λ (y : Number). y.number) l;
      rest = h.rest ∙ ap (λ (y : Number). y.rest) l;
    }

-- choices by whether a word stands at a position
module _ (s : List ℕ) (p : ℕ) {x : Rest} (e : rest_at s p ≡ x) where
  pub or_stands : (other : Rest) → p ≤ length s → Steps.or_else x other ≡ rest_at s p
  or_stands other i = rw (← e, rest_in s p i)

  pub or_not : (other : Rest) → length s < p → Steps.or_else x other ≡ other
  or_not other o = rw (← e, rest_out s p o)

  pub stands : (f : Rest → Steps.Read) (other : Steps.Read) → p ≤ length s → Steps.if_stands x f other ≡ f (rest_at s p)
  stands f other i = rw (← e, rest_in s p i)

  pub stands_not : (f : Rest → Steps.Read) (other : Steps.Read) → length s < p → Steps.if_stands x f other ≡ other
  stands_not f other o = rw (← e, rest_out s p o)

  pub is_read : (none some : Steps.Content) → p ≤ length s → Steps.if_read x none some ≡ some
  is_read none some i = rw (← e, rest_in s p i)

module _ (s : List ℕ) (a named closed : ℕ) (e1 : rest_at s named ≡ id (rest_at s a)) (e2 : rest_at s closed ≡ word (bytes "\"/>") (rest_at s named)) where
  pub transition-closed : closed ≤ length s → rest_at s closed ≡ Steps.transition (rest_at s a)
  unfolding Steps.transition
  transition-closed i = sym (or_stands s closed (e2 ∙ ap (word (bytes "\"/>")) e1) _ i)

  pub transition-open : (opened inside last : ℕ) → length s < closed → rest_at s opened ≡ word (bytes "\">") (rest_at s named)
      → rest_at s inside ≡ spaces (rest_at s opened) → rest_at s last ≡ word (bytes "</transition>") (rest_at s inside)
      → rest_at s last ≡ Steps.transition (rest_at s a)
  unfolding Steps.transition
  transition-open opened inside last o e3 e4 e5 =
      rw (e5, e4, e3, e1) (sym (or_not s closed (e2 ∙ ap (word (bytes "\"/>")) e1) _ o))

-- the element at a position
pub id-at : (s : List ℕ) (a : ℕ) → id_at s a ≡ id_of (rest_at s a)
unfolding id_at
id-at s a = ap (front Id) (sym (left-rest s a))

module _ (s : List ℕ) (a p : ℕ) (e1 : rest_at s p ≡ word (bytes "<place id=\"") (rest_at s a)) where
  pub place_read_lem : {h : Numbered} → p ≤ length s → Holds s h (place (rest_at s p))
      → Reads s (record { element = Place p h.number; next = h.next }) (Steps.element (rest_at s a))
  unfolding Steps.element
  place_read_lem {h} i g =
      let w = stands s p e1 Steps.place_read _ i in
      record {
        here = ap (λ (y : List ℕ). Steps.a_place y h.number) (id-at s p) ∙ ap (Steps.a_place (id_of (rest_at s p))) g.number;
        element = ap (λ (y : List ℕ). Steps.a_place y h.number) (id-at s p) ∙ ap (Steps.a_place (id_of (rest_at s p))) g.number ∙ ap (λ (y : Steps.Read). y.element) (sym w);
        rest = g.rest ∙ ap (λ (y : Steps.Read). y.rest) (sym w);
        within = λ k. omega (arith, before-within s p h.next 3 (omega (arith, ap size g.rest, place-size (rest_at s p))) k);
      }

  module _ (t : ℕ) (o : length s < p) (e2 : rest_at s t ≡ word (bytes "<transition id=\"") (rest_at s a)) where
    pub transition-read : {next : ℕ} → t ≤ length s → rest_at s next ≡ Steps.transition (rest_at s t)
        → Reads s (record { element = Transition t; next = next }) (Steps.element (rest_at s a))
    unfolding Steps.element
    transition-read {next} i g =
        let w = stands_not s p e1 Steps.place_read _ o ∙ stands s t e2 Steps.transition_read _ i in
        record {
          here = ap Steps.a_transition (id-at s t);
          element = ap Steps.a_transition (id-at s t) ∙ ap (λ (y : Steps.Read). y.element) (sym w);
          rest = g ∙ ap (λ (y : Steps.Read). y.rest) (sym w);
          within = λ k. omega (arith, before-within s t next 3 (omega (arith, ap size g, transition-size (rest_at s t))) k);
        }

    pub arc-read : (r : ℕ) {h : Ends} → length s < t → rest_at s r ≡ word (bytes "<arc id=\"") (rest_at s a) → HasEnds s h (rest_at s r)
        → Reads s (record { element = Arc r h.source h.target h.number; next = h.next }) (Steps.element (rest_at s a))
    unfolding Steps.element
    arc-read r {h} n e3 g =
        let w = stands_not s p e1 Steps.place_read _ o ∙ stands_not s t e2 Steps.transition_read _ n ∙ ap Steps.arc_read (sym e3) in
        let b : id_at s h.source ≡ id_of (Steps.source (rest_at s r)) = id-at s h.source ∙ ap id_of g.source in
        let d : id_at s h.target ≡ id_of (Steps.target (rest_at s r)) = id-at s h.target ∙ ap id_of g.target in
        record {
          here = λ j. Steps.an_arc (id-at s r j) (b j) (d j) (g.number j);
          element =
              (λ j. Steps.an_arc (id-at s r j) (b j) (d j) (g.number j)) ∙ ap (λ (y : Steps.Read). y.element) (sym w);
          rest = g.rest ∙ ap (λ (y : Steps.Read). y.rest) (sym w);
          within = λ k. omega (arith, before-within s r h.next 25 (omega (arith, ap size g.rest, arc-size (rest_at s r))) k);
        }

-- where an element stands, and where none does
pub element-none : (s : List ℕ) (f : Found) (r : Steps.Read) → Reads s f r → length s < f.next → r.rest ≡ outside
element-none s f r g o = sym g.rest ∙ rest_out s f.next o

-- the elements, one at a time
content-step : (n m : ℕ) (r : Rest) → n ≡ suc m
    → Steps.content n r
    ≡ Steps.if_read (Steps.element r).rest (record { elements = []; rest = r })
    (Steps.before (Steps.element r).element (Steps.content m (spaces (Steps.element r).rest)))
unfolding Steps.content
content-step n m r e = rw e

pub content-stop : (s : List ℕ) (n m a : ℕ) → n ≡ suc m → (Steps.element (rest_at s a)).rest ≡ outside
    → Steps.content n (rest_at s a) ≡ record { elements = []; rest = rest_at s a }
content-stop s n m a h o = content-step n m (rest_at s a) h ∙ rw o

pub content-on : (s : List ℕ) (n m a : ℕ) (f : Found) (b : ℕ) → n ≡ suc m → Reads s f (Steps.element (rest_at s a)) × (f.next ≤ length s)
    → rest_at s b ≡ spaces (rest_at s f.next)
    → Steps.content n (rest_at s a) ≡ Steps.before (meant s f.element) (Steps.content m (rest_at s b))
content-on s n m a f b h g e =
    content-step n m (rest_at s a) h ∙ is_read s f.next g.0.rest _ _ g.1
    ∙ sym (λ j. Steps.before (g.0.element j) (Steps.content m ((e ∙ ap spaces g.0.rest) j)))

pub content-end : (n : ℕ) (r : Rest) → n ≤ 0 → Steps.content n r ≡ record { elements = []; rest = r }
unfolding Steps.content
content-end n r h = rw (le-zero h)

pub nothing_left : (s : List ℕ) (p : ℕ) → eqb p (length s) ≡ Steps.nothing (rest_at s p)
nothing_left s p =
    by_cases (leb p (length s))
    (λ t. go (leb-true p (length s) t) (eqb p (length s)) refl ∙ ap Steps.nothing (sym (rest_in s p (leb-true p (length s) t))))
    (λ f. ne_eqb p (length s) (λ e. (let h = leb-false p (length s) f in omega arith)) ∙ ap Steps.nothing (sym (rest_out s p (leb-false p (length s) f))))
  where
    go : p ≤ length s → (b : Bool) → eqb p (length s) ≡ b → eqb p (length s) ≡ Steps.nothing (more (drop p s))
    go i true e = let q = eqb-true p (length s) e in rw q (eq-eqb (length s) (length s) refl ∙ rw (drop-length s))
    go i false e = let q = eqb-false p (length s) e in let h : p < length s = omega (arith, q) in e ∙ rw (drop-cons s p 0 h)
