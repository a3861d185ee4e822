-- The elements that the code's steps read are those of the profile's forms, numbers being capped. Assumes nothing.
use Prim.Native.Nat.{ℕ, zero, suc}
use Prim.Native.String.{String}
use mathlib.Core.Path.{◌≡◌, refl, sym, ap, ◌∙◌}
use mathlib.Core.Bool.{true}
use mathlib.Core.List.{List, [], ◌∷◌, map}
use Rattle.pnml_text.specs.Words.{bytes}
use Rattle.pnml_text.specs.Characters.{is_space}
use Rattle.pnml_text.specs.declared.Run.TheVariants.{Id}
use Rattle.pnml_text.specs.Rest.{Rest, outside, more, word, spaces, id, id_of, front, capped, number_of}
use Rattle.pnml_page.specs.Profile
use Rattle.pnml_page.specs.Profile.{Piece, tag, blank, name, number, failed, parsed, past, reads, Element, Form, made, forms, Next, none, stands, element, content}
use Rattle.pnml_page.specs.Steps
use Rattle.pnml_page.specs.Steps.{Number, Read, or_missing, label, ended, or_closed, tail, or_else, if_stands, if_read, a_place, a_transition, an_arc, place_read, transition_read, arc_read}
use Rattle.pnml_same.proofs.Pieces.{clash, clash_word, steps, held, parse, steps_outside, reads-are, spaces-are}

-- an element with its number as the code holds it
abbrev pub cap : Element → Element
cap e = record { sort = e.sort; id = e.id; source = e.source; target = e.target; number = capped e.number }

-- ---- one form, from its first tag on

module _ (sort ids missing : ℕ) (w : String) (l : List Piece) (others : List Form) (s : List ℕ) {r : Rest} (e : word (bytes w) (more s) ≡ r) where
  abbrev form : Form
  form = record { sort = sort; ids = ids; missing = missing; pieces = tag w ∷ l }

  read_so : reads (parsed [] s) (tag w ∷ l) ≡ parse (held r l) (steps r l)
  read_so = reads-are (tag w ∷ l) [] (more s) ∙ ap (λ (x : Rest). parse (held x l) (steps x l)) e

  form_no : steps r l ≡ outside → element (form ∷ others) s ≡ element others s
  unfolding element
  form_no q = let p : reads (parsed [] s) (tag w ∷ l) ≡ failed = read_so ∙ ap (parse (held r l)) q in rw (p, element)

  form_yes : {x : List ℕ} → steps r l ≡ more x → element (form ∷ others) s ≡ stands (made form (held r l)) x
  unfolding element
  form_yes {x} q = let p : reads (parsed [] s) (tag w ∷ l) ≡ parsed (held r l) x = read_so ∙ ap (parse (held r l)) q in rw (p, element)

-- ---- the three ways in which a place or an arc ends

module _ (start stop finish : String) (missing : ℕ) (apart : clash (bytes finish) (bytes start) ≡ true) where
  abbrev closed : List Piece
  closed = tag "\"/>" ∷ []

  abbrev void : List Piece
  void = tag "\">" ∷ blank ∷ tag finish ∷ []

  abbrev inner : List Piece
  inner = blank ∷ tag "<text>" ∷ number ∷ tag "</text>" ∷ blank ∷ tag stop ∷ blank ∷ tag finish ∷ []

  abbrev full : List Piece
  full = tag "\">" ∷ blank ∷ tag start ∷ inner

  abbrev ends : Rest → Number
  ends r = tail (bytes start) (bytes stop) (bytes finish) missing r

  -- after the tag that opens it
  abbrev inside : Rest → Rest
  inside r = spaces (word (bytes "\">") r)

  data Ended (r : Rest) : Type 0 where
    by_closed : (x : List ℕ) → steps r closed ≡ more x → (ends r).number ≡ missing → (ends r).rest ≡ more x → Ended r
    by_void : (x : List ℕ) → steps r closed ≡ outside → steps r void ≡ more x → (ends r).number ≡ missing → (ends r).rest ≡ more x → Ended r
    by_full : (x : List ℕ) → steps r closed ≡ outside → steps r void ≡ outside → steps r full ≡ more x
        → (ends r).number ≡ number_of (word (bytes "<text>") (spaces (word (bytes start) (inside r)))) → (ends r).rest ≡ more x → Ended r
    nowhere : steps r closed ≡ outside → steps r void ≡ outside → steps r full ≡ outside → (ends r).rest ≡ outside → Ended r

  module _ (r : Rest) where
    abbrev opened : Number
    opened = ended (bytes finish) (label (bytes start) (bytes stop) missing (inside r))

    closed_so : {x : Rest} → word (bytes "\"/>") r ≡ x → ends r ≡ or_closed missing x opened
    unfolding tail
    closed_so e = ap (λ (y : Rest). or_closed missing y opened) e

    label-so : {x : Rest} → word (bytes start) (inside r) ≡ x → opened ≡ ended (bytes finish) (or_missing missing (bytes stop) (inside r) x)
    unfolding label
    label-so e = ap (λ (y : Rest). ended (bytes finish) (or_missing missing (bytes stop) (inside r) y)) e

    with-label : (y x : Rest) → word (bytes "\"/>") r ≡ outside → word (bytes finish) (inside r) ≡ outside → word (bytes start) (inside r) ≡ y → steps y inner ≡ x → Ended r
    unfolding Steps.held
    with-label outside x e f g h =
        let q = closed_so e ∙ label-so g in
        nowhere e f (ap (λ (z : Rest). steps z inner) g ∙ steps_outside inner) (ap (λ (n : Number). n.rest) q ∙ f)
    with-label (more y) outside e f g h =
        let q = closed_so e ∙ label-so g in
        nowhere e f (ap (λ (z : Rest). steps z inner) g ∙ h) (ap (λ (n : Number). n.rest) q ∙ h)
    with-label (more y) (more x) e f g h =
        let q = closed_so e ∙ label-so g in
        by_full x e f (ap (λ (z : Rest). steps z inner) g ∙ h)
        (ap (λ (n : Number). n.number) q ∙ sym (ap (λ (z : Rest). number_of (word (bytes "<text>") (spaces z))) g))
        (ap (λ (n : Number). n.rest) q ∙ h)

    without : (x : Rest) → word (bytes "\"/>") r ≡ outside → word (bytes finish) (inside r) ≡ x → Ended r
    without outside e f = with-label (word (bytes start) (inside r)) (steps (word (bytes start) (inside r)) inner) e f refl refl
    without (more x) e f =
        let q = closed_so e ∙ label-so (clash_word (bytes finish) (bytes start) (inside r) x apart f) in
        by_void x e f (ap (λ (n : Number). n.number) q) (ap (λ (n : Number). n.rest) q ∙ f)

    in_all : (x : Rest) → word (bytes "\"/>") r ≡ x → Ended r
    in_all outside e = without (word (bytes finish) (inside r)) e refl
    in_all (more x) e = by_closed x e (ap (λ (n : Number). n.number) (closed_so e)) (ap (λ (n : Number). n.rest) (closed_so e))

    tail-ends : Ended r
    tail-ends = in_all (word (bytes "\"/>") r) refl

-- ---- an element

-- none stands, or the same one, with its number capped, and the same is left
data Agrees (n : Next) (r : Read) : Type 0 where
  neither : n ≡ none → r.rest ≡ outside → Agrees n r
  both : (e : Element) (x : List ℕ) → n ≡ stands e x → r.rest ≡ more x → cap e ≡ r.element → Agrees n r

abbrev empty_transition_lem : List Piece
empty_transition_lem = tag "\">" ∷ blank ∷ tag "</transition>" ∷ []

abbrev markings : List Piece
markings = full "<initialMarking>" "</initialMarking>" "</place>" 0 refl

abbrev weights : List Piece
weights = full "<inscription>" "</inscription>" "</arc>" 1 refl

abbrev of_arcs : List Form
of_arcs =
    Profile.arc (tag "\"/>" ∷ [])
    ∷ Profile.arc (tag "\">" ∷ blank ∷ tag "</arc>" ∷ [])
    ∷ Profile.arc weights
    ∷ []

abbrev of_transitions : List Form
of_transitions = Profile.transition (tag "\"/>" ∷ []) ∷ Profile.transition empty_transition_lem ∷ of_arcs

abbrev ends_of : List Piece → List Piece
ends_of l = name ∷ tag "\" source=\"" ∷ name ∷ tag "\" target=\"" ∷ name ∷ l

module _ (s : List ℕ) where
  no_places : word (bytes "<place id=\"") (more s) ≡ outside → element forms s ≡ element of_transitions s
  no_places e =
      form_no 0 1 0 "<place id=\"" (name ∷ tag "\"/>" ∷ []) _ s e (steps_outside (name ∷ tag "\"/>" ∷ []))
      ∙ form_no 0 1 0 "<place id=\"" (name ∷ tag "\">" ∷ blank ∷ tag "</place>" ∷ []) _ s e (steps_outside (name ∷ tag "\">" ∷ blank ∷ tag "</place>" ∷ []))
      ∙ form_no 0 1 0 "<place id=\"" (name ∷ markings) _ s e (steps_outside (name ∷ markings))

  no_transitions : word (bytes "<transition id=\"") (more s) ≡ outside → element of_transitions s ≡ element of_arcs s
  no_transitions e =
      form_no 1 1 0 "<transition id=\"" (name ∷ tag "\"/>" ∷ []) _ s e (steps_outside (name ∷ tag "\"/>" ∷ []))
      ∙ form_no 1 1 0 "<transition id=\"" (name ∷ empty_transition_lem) _ s e (steps_outside (name ∷ empty_transition_lem))

  no_arcs : {r : Rest} → word (bytes "<arc id=\"") (more s) ≡ r → steps r (ends_of (tag "\"/>" ∷ [])) ≡ outside → steps r (ends_of (tag "\">" ∷ blank ∷ tag "</arc>" ∷ [])) ≡ outside → steps r (ends_of weights) ≡ outside
      → element of_arcs s ≡ none
  unfolding element
  no_arcs e f g h =
      form_no 2 3 1 "<arc id=\"" (ends_of (tag "\"/>" ∷ [])) (Profile.arc (tag "\">" ∷ blank ∷ tag "</arc>" ∷ []) ∷ Profile.arc weights ∷ []) s e f
      ∙ form_no 2 3 1 "<arc id=\"" (ends_of (tag "\">" ∷ blank ∷ tag "</arc>" ∷ [])) (Profile.arc weights ∷ []) s e g
      ∙ form_no 2 3 1 "<arc id=\"" (ends_of weights) [] s e h

  none_left : word (bytes "<arc id=\"") (more s) ≡ outside → element of_arcs s ≡ none
  none_left e = no_arcs e (steps_outside (ends_of (tag "\"/>" ∷ []))) (steps_outside (ends_of (tag "\">" ∷ blank ∷ tag "</arc>" ∷ []))) (steps_outside (ends_of weights))

  -- an arc
  abbrev at_arc : Rest
  at_arc = word (bytes "<arc id=\"") (more s)

  arc-agrees : Agrees (element of_arcs s) (arc_read at_arc)
  unfolding Steps.source Steps.target Steps.arc
  arc-agrees = go (tail-ends "<inscription>" "</inscription>" "</arc>" 1 refl (id (Steps.target at_arc)))
    where
      go : Ended "<inscription>" "</inscription>" "</arc>" 1 refl (id (Steps.target at_arc)) → Agrees (element of_arcs s) (arc_read at_arc)
      go (by_closed x q n m) =
          both _ x (form_yes 2 3 1 "<arc id=\"" (ends_of (tag "\"/>" ∷ [])) _ s refl q) m
          (ap (an_arc (id_of at_arc) (id_of (Steps.source at_arc)) (id_of (Steps.target at_arc))) (sym n))
      go (by_void x p q n m) =
          both _ x
          (form_no 2 3 1 "<arc id=\"" (ends_of (tag "\"/>" ∷ [])) _ s refl p ∙ form_yes 2 3 1 "<arc id=\"" (ends_of (tag "\">" ∷ blank ∷ tag "</arc>" ∷ [])) _ s refl q) m
          (ap (an_arc (id_of at_arc) (id_of (Steps.source at_arc)) (id_of (Steps.target at_arc))) (sym n))
      go (by_full x o p q n m) =
          both _ x
          (form_no 2 3 1 "<arc id=\"" (ends_of (tag "\"/>" ∷ [])) _ s refl o
          ∙ form_no 2 3 1 "<arc id=\"" (ends_of (tag "\">" ∷ blank ∷ tag "</arc>" ∷ [])) _ s refl p
          ∙ form_yes 2 3 1 "<arc id=\"" (ends_of weights) _ s refl q)
          m
          (ap (an_arc (id_of at_arc) (id_of (Steps.source at_arc)) (id_of (Steps.target at_arc))) (sym n))
      go (nowhere o p q m) = neither (no_arcs refl o p q) m

  -- a transition
  module _ (b : List ℕ) (e : word (bytes "<transition id=\"") (more s) ≡ more b) where
    apart_arc : word (bytes "<arc id=\"") (more s) ≡ outside
    apart_arc = clash_word (bytes "<transition id=\"") (bytes "<arc id=\"") (more s) b refl e

    transition-by : (x y : Rest) → word (bytes "\"/>") (id (more b)) ≡ x → word (bytes "</transition>") (spaces (word (bytes "\">") (id (more b)))) ≡ y → Agrees (element of_transitions s) (transition_read (more b))
    unfolding Steps.transition
    transition-by (more x) y p q =
        both _ x (form_yes 1 1 0 "<transition id=\"" (name ∷ tag "\"/>" ∷ []) _ s e p) (ap (λ (z : Rest). or_else z (word (bytes "</transition>") (spaces (word (bytes "\">") (id (more b)))))) p) refl
    transition-by outside (more y) p q =
        both _ y (form_no 1 1 0 "<transition id=\"" (name ∷ tag "\"/>" ∷ []) _ s e p ∙ form_yes 1 1 0 "<transition id=\"" (name ∷ empty_transition_lem) _ s e q)
        (ap (λ (z : Rest). or_else z (word (bytes "</transition>") (spaces (word (bytes "\">") (id (more b)))))) p ∙ q) refl
    transition-by outside outside p q =
        neither
        (form_no 1 1 0 "<transition id=\"" (name ∷ tag "\"/>" ∷ []) _ s e p ∙ form_no 1 1 0 "<transition id=\"" (name ∷ empty_transition_lem) _ s e q ∙ none_left apart_arc)
        (ap (λ (z : Rest). or_else z (word (bytes "</transition>") (spaces (word (bytes "\">") (id (more b)))))) p ∙ q)

  -- a place
  module _ (a : List ℕ) (e : word (bytes "<place id=\"") (more s) ≡ more a) where
    others_none : element of_transitions s ≡ none
    others_none =
        no_transitions (clash_word (bytes "<place id=\"") (bytes "<transition id=\"") (more s) a refl e)
        ∙ none_left (clash_word (bytes "<place id=\"") (bytes "<arc id=\"") (more s) a refl e)

    place-agrees : Agrees (element forms s) (place_read (more a))
    unfolding Steps.place
    place-agrees = go (tail-ends "<initialMarking>" "</initialMarking>" "</place>" 0 refl (id (more a)))
      where
        go : Ended "<initialMarking>" "</initialMarking>" "</place>" 0 refl (id (more a)) → Agrees (element forms s) (place_read (more a))
        go (by_closed x q n m) = both _ x (form_yes 0 1 0 "<place id=\"" (name ∷ tag "\"/>" ∷ []) _ s e q) m (ap (a_place (front Id a)) (sym n))
        go (by_void x p q n m) =
            both _ x
            (form_no 0 1 0 "<place id=\"" (name ∷ tag "\"/>" ∷ []) _ s e p ∙ form_yes 0 1 0 "<place id=\"" (name ∷ tag "\">" ∷ blank ∷ tag "</place>" ∷ []) _ s e q) m
            (ap (a_place (front Id a)) (sym n))
        go (by_full x o p q n m) =
            both _ x
            (form_no 0 1 0 "<place id=\"" (name ∷ tag "\"/>" ∷ []) _ s e o
            ∙ form_no 0 1 0 "<place id=\"" (name ∷ tag "\">" ∷ blank ∷ tag "</place>" ∷ []) _ s e p
            ∙ form_yes 0 1 0 "<place id=\"" (name ∷ markings) _ s e q)
            m
            (ap (a_place (front Id a)) (sym n))
        go (nowhere o p q m) =
            neither
            (form_no 0 1 0 "<place id=\"" (name ∷ tag "\"/>" ∷ []) _ s e o
            ∙ form_no 0 1 0 "<place id=\"" (name ∷ tag "\">" ∷ blank ∷ tag "</place>" ∷ []) _ s e p
            ∙ form_no 0 1 0 "<place id=\"" (name ∷ markings) _ s e q
            ∙ others_none)
            m

-- agreement along equations
agrees_as : {n n' : Next} {r r' : Read} → n' ≡ n → r' ≡ r → Agrees n r → Agrees n' r'
agrees_as p q (neither a b) = neither (p ∙ a) (ap (λ (y : Read). y.rest) q ∙ b)
agrees_as p q (both e x a b c) = both e x (p ∙ a) (ap (λ (y : Read). y.rest) q ∙ b) (c ∙ sym (ap (λ (y : Read). y.element) q))

element-agrees : (s : List ℕ) → Agrees (element forms s) (Steps.element (more s))
unfolding Steps.element
element-agrees s = first (word (bytes "<place id=\"") (more s)) refl
  where
    second : (y : Rest) → word (bytes "<transition id=\"") (more s) ≡ y → Agrees (element of_transitions s) (if_stands y transition_read (arc_read (word (bytes "<arc id=\"") (more s))))
    second (more b) e = transition-by s b e (word (bytes "\"/>") (id (more b))) (word (bytes "</transition>") (spaces (word (bytes "\">") (id (more b))))) refl refl
    second outside e = agrees_as (no_transitions s e) refl (arc-agrees s)

    first : (x : Rest) → word (bytes "<place id=\"") (more s) ≡ x → Agrees (element forms s) (if_stands (word (bytes "<place id=\"") (more s)) place_read (if_stands (word (bytes "<transition id=\"") (more s)) transition_read (arc_read (word (bytes "<arc id=\"") (more s)))))
    first (more a) e = agrees_as refl (ap (λ (z : Rest). if_stands z place_read (if_stands (word (bytes "<transition id=\"") (more s)) transition_read (arc_read (word (bytes "<arc id=\"") (more s))))) e) (place-agrees s a e)
    first outside e =
        agrees_as (no_places s e) (ap (λ (z : Rest). if_stands z place_read (if_stands (word (bytes "<transition id=\"") (more s)) transition_read (arc_read (word (bytes "<arc id=\"") (more s))))) e)
        (second (word (bytes "<transition id=\"") (more s)) refl)

-- ---- all of them

pub record Same (n : ℕ) (s : List ℕ) : Type 0 where
  pub elements : (Steps.content n (more s)).elements ≡ map cap (content n s).elements
  pub rest : (Steps.content n (more s)).rest ≡ more (content n s).rest

pub same : (n : ℕ) (s : List ℕ) → Same n s
unfolding Steps.content content
same zero s = record { elements = refl; rest = refl }
same (suc n) s = go (element-agrees s) (λ l. same n l)
  where
    go : Agrees (element forms s) (Steps.element (more s)) → ((l : List ℕ) → Same n l) → Same (suc n) s
    go (neither p q) all =
        let c : content (suc n) s ≡ record { elements = []; rest = s } = rw (p, content) in
        let d : Steps.content (suc n) (more s) ≡ record { elements = []; rest = more s } = ap (λ (y : Rest). if_read y (record { elements = []; rest = more s }) (Steps.before (Steps.element (more s)).element (Steps.content n (spaces y)))) q in
        record {
          elements = ap (λ (y : Steps.Content). y.elements) d ∙ sym (ap (λ (y : Profile.Body). map cap y.elements) c);
          rest = ap (λ (y : Steps.Content). y.rest) d ∙ sym (ap (λ (y : Profile.Body). more y.rest) c);
        }
    go (both e x p q t) all =
        let l = past is_space x in
        let i = all l in
        let c : content (suc n) s ≡ record { elements = e ∷ (content n l).elements; rest = (content n l).rest } = rw (p, content) in
        let d : Steps.content (suc n) (more s) ≡ Steps.before (cap e) (Steps.content n (more l)) =
        ap (λ (y : Rest). if_read y (record { elements = []; rest = more s }) (Steps.before (Steps.element (more s)).element (Steps.content n (spaces y)))) q
        ∙ (λ j. Steps.before (sym t j) (Steps.content n (spaces-are x j))) in
        record {
          elements = ap (λ (y : Steps.Content). y.elements) d ∙ ap (λ (y : List Element). cap e ∷ y) i.elements ∙ sym (ap (λ (y : Profile.Body). map cap y.elements) c);
          rest = ap (λ (y : Steps.Content). y.rest) d ∙ i.rest ∙ sym (ap (λ (y : Profile.Body). more y.rest) c);
        }
