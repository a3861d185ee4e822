-- The strict profile of PNML that is taken (document 02, A10): which pieces stand in a text, one after the other. "Nothing else is taken".
-- A tag is written out in full: "Attributes stand in the order given, in double quotes, one space before each".
use Rattle.std.specs.Prelude.{ℕ, zero, suc, Bool, true, false, ◌||◌, ◌&&◌, List, [], ◌∷◌, ◌++◌, length, take, drop, get_or, eqb, ltb}
use Prim.Native.String.{String}
use Rattle.pnml_text.specs.Words.{bytes}
use Rattle.pnml_text.specs.Characters.{is_space, is_digit, is_id}
use Rattle.pnml_text.specs.Rest.{decimal}

-- a text starts with a word
unfoldable pub starts : List ℕ → List ℕ → Bool
starts [] s = true
starts (a ∷ w) [] = false
starts (a ∷ w) (b ∷ s) = eqb b a && starts w s

-- the longest run of such characters at the start of a text
unfoldable pub run : (ℕ → Bool) → List ℕ → List ℕ
run f [] = []
run f (b ∷ s) = elim (f b) [ true ↦ b ∷ run f s | false ↦ [] ]

-- and what stands after it
abbrev pub past : (ℕ → Bool) → List ℕ → List ℕ
past f s = drop (length (run f s)) s

-- what a text is made of: these bytes; white space or none; an id; digits
pub data Piece : Type 0 where
  tag : String → Piece
  blank : Piece
  name : Piece
  number : Piece

-- the ids and the digits that were read, and what is left; or the text is outside the profile
pub data Parse : Type 0 where
  failed : Parse
  parsed : List (List ℕ) → List ℕ → Parse

-- a piece is read. "ids have 1 to 32 characters"; "one or more decimal digits"
unfoldable pub next : Parse → Piece → Parse
next failed p = failed
next (parsed held s) (tag w) = elim (starts (bytes w) s) [ true ↦ parsed held (drop (length (bytes w)) s) | false ↦ failed ]
next (parsed held s) blank = parsed held (past is_space s)
next (parsed held s) name = elim (eqb (length (run is_id s)) 0 || ltb 32 (length (run is_id s))) [ true ↦ failed | false ↦ parsed (held ++ (run is_id s ∷ [])) (past is_id s) ]
next (parsed held s) number = elim (eqb (length (run is_digit s)) 0) [ true ↦ failed | false ↦ parsed (held ++ (run is_digit s ∷ [])) (past is_digit s) ]

unfoldable pub reads : Parse → List Piece → Parse
reads r [] = r
reads r (p ∷ l) = reads (next r p) l

-- a place (sort 0) with its marking, a transition (1), or an arc (2) with the ids of its ends and its weight
pub record Element : Type 0 where
  pub sort : ℕ
  pub id : List ℕ
  pub source : List ℕ
  pub target : List ℕ
  pub number : ℕ

-- a form of an element: its sort, how many ids it has, its number where no digits stand, its pieces
pub record Form : Type 0 where
  pub sort : ℕ
  pub ids : ℕ
  pub missing : ℕ
  pub pieces : List Piece

-- the element by the ids and the digits that were read
abbrev pub made : Form → List (List ℕ) → Element
made f held = record {
  sort = f.sort;
  id = get_or held 0 [];
  source = get_or (take f.ids held) 1 [];
  target = get_or (take f.ids held) 2 [];
  number = elim (drop f.ids held) [ [] ↦ f.missing | n ∷ l ↦ decimal 0 n ];
}

-- "place and transition (id) and arc (id, source, target, each written as an id)"; "A missing marking is 0, a missing inscription 1"
abbrev pub place : List Piece → Form
place l = record { sort = 0; ids = 1; missing = 0; pieces = tag "<place id=\"" ∷ name ∷ l }

abbrev pub transition : List Piece → Form
transition l = record { sort = 1; ids = 1; missing = 0; pieces = tag "<transition id=\"" ∷ name ∷ l }

abbrev pub arc : List Piece → Form
arc l = record { sort = 2; ids = 3; missing = 1; pieces = tag "<arc id=\"" ∷ name ∷ tag "\" source=\"" ∷ name ∷ tag "\" target=\"" ∷ name ∷ l }

-- "at most one initialMarking to a place and inscription to an arc, holding one text of one or more decimal digits each";
-- one "with no content may also close in its own tag, by />"
abbrev pub forms : List Form
forms =
    place (tag "\"/>" ∷ [])
    ∷ place (tag "\">" ∷ blank ∷ tag "</place>" ∷ [])
    ∷ place (tag "\">" ∷ blank ∷ tag "<initialMarking>" ∷ blank ∷ tag "<text>" ∷ number ∷ tag "</text>" ∷ blank ∷ tag "</initialMarking>" ∷ blank ∷ tag "</place>" ∷ [])
    ∷ transition (tag "\"/>" ∷ [])
    ∷ transition (tag "\">" ∷ blank ∷ tag "</transition>" ∷ [])
    ∷ arc (tag "\"/>" ∷ [])
    ∷ arc (tag "\">" ∷ blank ∷ tag "</arc>" ∷ [])
    ∷ arc (tag "\">" ∷ blank ∷ tag "<inscription>" ∷ blank ∷ tag "<text>" ∷ number ∷ tag "</text>" ∷ blank ∷ tag "</inscription>" ∷ blank ∷ tag "</arc>" ∷ [])
    ∷ []

-- an element that stands next, and what is left after it; or none does
pub data Next : Type 0 where
  none : Next
  stands : Element → List ℕ → Next

-- in the first of these forms in which one stands
unfoldable pub element : List Form → List ℕ → Next
element [] s = none
element (f ∷ l) s = elim (reads (parsed [] s) f.pieces) [ failed ↦ element l s | parsed held r ↦ stands (made f held) r ]

-- elements, and what is left after them
pub record Body : Type 0 where
  pub elements : List Element
  pub rest : List ℕ

-- "in that, in any order", as long as one stands next, at most n; white space after each
unfoldable pub content : ℕ → List ℕ → Body
content zero s = record { elements = []; rest = s }
content (suc n) s = elim (element forms s) [ none ↦ record { elements = []; rest = s } | stands e r ↦ record { elements = e ∷ (content n (past is_space r)).elements; rest = (content n (past is_space r)).rest } ]

-- "pnml (xmlns http://www.pnml.org/version-2009/grammar/pnml), in it one net (id; type, the same address with ptnet for its final pnml), in it one page (id)".
-- "White space .. stands only before the first tag, after the last, and between two tags with no digits between them"
abbrev pub head : List Piece
head =
    blank ∷ tag "<pnml xmlns=\"http://www.pnml.org/version-2009/grammar/pnml\">" ∷ blank ∷ tag "<net id=\"" ∷ name ∷ tag "\" type=\"http://www.pnml.org/version-2009/grammar/ptnet\">"
    ∷ blank ∷ tag "<page id=\"" ∷ name ∷ tag "\">" ∷ blank ∷ []

abbrev pub foot : List Piece
foot = tag "</page>" ∷ blank ∷ tag "</net>" ∷ blank ∷ tag "</pnml>" ∷ blank ∷ []

-- the body of a text: an element has more than one byte, so as many as the text has bytes are enough
unfoldable pub body : List ℕ → Body
body s = content (length s) (elim (reads (parsed [] s) head) [ failed ↦ [] | parsed held r ↦ r ])

-- nothing is left: the text is of the profile; else "18: text outside the profile"
unfoldable pub of_profile : List ℕ → Bool
of_profile s = elim (reads (parsed [] (body s).rest) foot) [ failed ↦ false | parsed held r ↦ eqb (length r) 0 ]

-- what a text of the profile says: the ids of its net and its page, and its elements in order of appearance
pub record Drawing : Type 0 where
  pub heads : List (List ℕ)
  pub elements : List Element

unfoldable pub drawing : List ℕ → Drawing
drawing s = record { heads = elim (reads (parsed [] s) head) [ failed ↦ [] | parsed held r ↦ held ]; elements = (body s).elements }
