-- How the code reads a text, step by step: for its own contracts, not for a reader of the public calls. That the steps read what Profile says is proved in proofs/Same.
use Rattle.std.specs.Prelude.{ℕ, zero, suc, ◌≡◌, List, [], ◌∷◌, Bool, true, false}
use Rattle.pnml_page.specs.declared.Numbered.{Numbered}
use Rattle.pnml_text.specs.Words.{bytes}
use Rattle.pnml_page.specs.Profile.{Element}
use Rattle.pnml_text.specs.Rest.{Rest, outside, more, word, spaces, id, id_of, digits, number_of, rest_at}

-- a number and what stands after it
pub record Number : Type 0 where
  pub number : ℕ
  pub rest : Rest

-- the code's number and position are those
pub record Holds (s : List ℕ) (r : Numbered) (n : Number) : Type 0 where
  pub number : r.number ≡ n.number
  pub rest : rest_at s r.next ≡ n.rest

-- in a label: one text of digits, up to its closing tag
unfoldable pub held : List ℕ → Rest → Number
held stop r =
    record { number = number_of (word (bytes "<text>") (spaces r)); rest = spaces (word stop (spaces (word (bytes "</text>") (digits (word (bytes "<text>") (spaces r)))))) }

-- the label where it stands, else the number for a missing one
abbrev pub or_missing : ℕ → List ℕ → Rest → Rest → Number
or_missing missing stop r outside = record { number = missing; rest = r }
or_missing missing stop r (more s) = held stop (more s)

-- at most one label, from its opening tag to its closing one
unfoldable pub label : List ℕ → List ℕ → ℕ → Rest → Number
label start stop missing r = or_missing missing stop r (word start r)

-- then the closing tag
abbrev pub ended : List ℕ → Number → Number
ended finish n = record { number = n.number; rest = word finish n.rest }

-- the element ends in its own tag if the first is not outside, else as the second says
abbrev pub or_closed : ℕ → Rest → Number → Number
or_closed missing outside n = n
or_closed missing (more s) n = record { number = missing; rest = more s }

-- the end of a place or an arc, from the quote after its last attribute on: `/>`; or a label or none, and the closing tag
unfoldable pub tail : List ℕ → List ℕ → List ℕ → ℕ → Rest → Number
tail start stop finish missing r =
    or_closed missing (word (bytes "\"/>") r)
    (ended finish (label start stop missing (spaces (word (bytes "\">") r))))

-- a place, from its id on
unfoldable pub place : Rest → Number
place r = tail (bytes "<initialMarking>") (bytes "</initialMarking>") (bytes "</place>") 0 (id r)

-- the first where it stands, else the second
abbrev pub or_else : Rest → Rest → Rest
or_else outside other = other
or_else (more s) other = more s

-- a transition, from its id on
unfoldable pub transition : Rest → Rest
transition r =
    or_else (word (bytes "\"/>") (id r)) (word (bytes "</transition>") (spaces (word (bytes "\">") (id r))))

-- in an arc, from its id on: where its source and its target stand
unfoldable pub source : Rest → Rest
source r = word (bytes "\" source=\"") (id r)

unfoldable pub target : Rest → Rest
target r = word (bytes "\" target=\"") (id (source r))

-- an arc, from its id on
unfoldable pub arc : Rest → Number
arc r = tail (bytes "<inscription>") (bytes "</inscription>") (bytes "</arc>") 1 (id (target r))

abbrev pub a_place : List ℕ → ℕ → Element
a_place i n = record { sort = 0; id = i; source = []; target = []; number = n }

abbrev pub a_transition : List ℕ → Element
a_transition i = record { sort = 1; id = i; source = []; target = []; number = 0 }

abbrev pub an_arc : List ℕ → List ℕ → List ℕ → ℕ → Element
an_arc i a b n = record { sort = 2; id = i; source = a; target = b; number = n }

-- an element, and what is left after it
pub record Read : Type 0 where
  pub element : Element
  pub rest : Rest

abbrev pub place_read : Rest → Read
place_read r = record { element = a_place (id_of r) (place r).number; rest = (place r).rest }

abbrev pub transition_read : Rest → Read
transition_read r = record { element = a_transition (id_of r); rest = transition r }

abbrev pub arc_read : Rest → Read
arc_read r = record { element = an_arc (id_of r) (id_of (source r)) (id_of (target r)) (arc r).number; rest = (arc r).rest }

-- f of the first if that is not outside, else the other
abbrev pub if_stands : Rest → (Rest → Read) → Read → Read
if_stands outside f other = other
if_stands (more s) f other = f (more s)

-- a place, a transition or an arc, by its first word
unfoldable pub element : Rest → Read
element r =
    if_stands (word (bytes "<place id=\"") r) place_read
    (if_stands (word (bytes "<transition id=\"") r) transition_read (arc_read (word (bytes "<arc id=\"") r)))

-- the elements of a page, and what is left after them
pub record Content : Type 0 where
  pub elements : List Element
  pub rest : Rest

-- one more, before them
abbrev pub before : Element → Content → Content
before e c = record { elements = e ∷ c.elements; rest = c.rest }

-- none where no element stands, else some
abbrev pub if_read : Rest → Content → Content → Content
if_read outside none some = none
if_read (more s) none some = some

-- the elements of the page, with white space after each; at most n
unfoldable pub content : ℕ → Rest → Content
content zero r = record { elements = []; rest = r }
content (suc n) r =
    if_read (element r).rest (record { elements = []; rest = r }) (before (element r).element (content n (spaces (element r).rest)))

-- an element takes 15 bytes or more, so a text of 65,536 bytes has fewer than this: more of them change nothing (proofs/Enough, most-enough)
abbrev pub most : ℕ
most = 4370

-- where the id of the net stands
unfoldable pub net : Rest → Rest
net r =
    word (bytes "<net id=\"")
    (spaces (word (bytes "<pnml xmlns=\"http://www.pnml.org/version-2009/grammar/pnml\">") (spaces r)))

-- where the id of the page stands
unfoldable pub page : Rest → Rest
page r =
    word (bytes "<page id=\"")
    (spaces (word (bytes "\" type=\"http://www.pnml.org/version-2009/grammar/ptnet\">") (id (net r))))

-- where the elements start
unfoldable pub inside : Rest → Rest
inside r = spaces (word (bytes "\">") (id (page r)))

-- after the elements: three closing tags
unfoldable pub after : Rest → Rest
after r =
    spaces (word (bytes "</pnml>") (spaces (word (bytes "</net>") (spaces (word (bytes "</page>") r)))))

-- nothing is left
abbrev pub nothing : Rest → Bool
nothing outside = false
nothing (more []) = true
nothing (more (b ∷ s)) = false

-- the steps read the text to its end
unfoldable pub read_whole : List ℕ → Bool
read_whole s = nothing (after (content most (inside (more s))).rest)
