-- Texts of the profile, written out (document 02, A10): what a text with right ids says is what it was written from. Nothing here goes by the definitions of Profile but its records.
use Rattle.std.specs.Prelude.{ℕ, ◌≤◌, Bool, true, false, ◌||◌, List, [], ◌∷◌, ◌++◌, map, ◌≡◌, eqb, length}
use Rattle.pnml_text.specs.Words.{bytes}
use Rattle.pnml_text.specs.Rest.{decimal}
use Rattle.pnml_page.specs.Profile.{Element, drawing, of_profile}

-- each byte is one of these
abbrev pub one_of : List ℕ → ℕ → Bool
one_of [] b = false
one_of (a ∷ l) b = eqb b a || one_of l b

abbrev pub Each : List ℕ → List ℕ → Type 0
Each l [] = Unit {0}
Each l (b ∷ s) = (one_of l b ≡ true) × Each l s

-- "ids have 1 to 32 characters"; digits are one or more; "White space (bytes 9, 10, 13, 32)"
pub record RightId (x : List ℕ) : Type 0 where
  pub some : 1 ≤ length x
  pub few : length x ≤ 32
  pub right : Each (bytes "ABCDEFGHIJKLMNOPQRSTUVWXYZabcdefghijklmnopqrstuvwxyz0123456789-_.") x

pub record RightDigits (x : List ℕ) : Type 0 where
  pub some : 1 ≤ length x
  pub right : Each (bytes "0123456789") x

abbrev pub White : List ℕ → Type 0
White w = Each (9 ∷ 10 ∷ 13 ∷ 32 ∷ []) w

-- an element as it is written: closed in its own tag, without content, or with a label; its ids, its digits
pub data Spelling : Type 0 where
  closed_place : List ℕ → Spelling
  empty_place : List ℕ → Spelling
  marked_place : List ℕ → List ℕ → Spelling
  closed_transition : List ℕ → Spelling
  empty_transition : List ℕ → Spelling
  closed_arc : List ℕ → List ℕ → List ℕ → Spelling
  empty_arc : List ℕ → List ℕ → List ℕ → Spelling
  inscribed_arc : List ℕ → List ℕ → List ℕ → List ℕ → Spelling

-- what it says: "A missing marking is 0, a missing inscription 1"
abbrev pub meaning : Spelling → Element
meaning (closed_place i) = record { sort = 0; id = i; source = []; target = []; number = 0 }
meaning (empty_place i) = record { sort = 0; id = i; source = []; target = []; number = 0 }
meaning (marked_place i n) = record { sort = 0; id = i; source = []; target = []; number = decimal 0 n }
meaning (closed_transition i) = record { sort = 1; id = i; source = []; target = []; number = 0 }
meaning (empty_transition i) = record { sort = 1; id = i; source = []; target = []; number = 0 }
meaning (closed_arc i a b) = record { sort = 2; id = i; source = a; target = b; number = 1 }
meaning (empty_arc i a b) = record { sort = 2; id = i; source = a; target = b; number = 1 }
meaning (inscribed_arc i a b n) = record { sort = 2; id = i; source = a; target = b; number = decimal 0 n }

-- its ids and its digits are right
abbrev pub Right : Spelling → Type 0
Right (closed_place i) = RightId i
Right (empty_place i) = RightId i
Right (marked_place i n) = RightId i × RightDigits n
Right (closed_transition i) = RightId i
Right (empty_transition i) = RightId i
Right (closed_arc i a b) = RightId i × RightId a × RightId b
Right (empty_arc i a b) = RightId i × RightId a × RightId b
Right (inscribed_arc i a b n) = RightId i × RightId a × RightId b × RightDigits n

abbrev pub AllRight : List Spelling → Type 0
AllRight [] = Unit {0}
AllRight (x ∷ l) = Right x × AllRight l

-- the bytes of it, with w wherever white space may stand, before the bytes r
abbrev pub spelled : List ℕ → Spelling → List ℕ → List ℕ
spelled w (closed_place i) r = bytes "<place id=\"" ++ (i ++ (bytes "\"/>" ++ r))
spelled w (empty_place i) r = bytes "<place id=\"" ++ (i ++ (bytes "\">" ++ (w ++ (bytes "</place>" ++ r))))
spelled w (marked_place i n) r =
    bytes "<place id=\"" ++ (i ++ (bytes "\">" ++ (w ++ (bytes "<initialMarking>" ++ (w ++ (bytes "<text>" ++ (n ++ (bytes "</text>" ++ (w ++ (bytes "</initialMarking>" ++ (w ++ (bytes "</place>" ++ r))))))))))))
spelled w (closed_transition i) r = bytes "<transition id=\"" ++ (i ++ (bytes "\"/>" ++ r))
spelled w (empty_transition i) r = bytes "<transition id=\"" ++ (i ++ (bytes "\">" ++ (w ++ (bytes "</transition>" ++ r))))
spelled w (closed_arc i a b) r = bytes "<arc id=\"" ++ (i ++ (bytes "\" source=\"" ++ (a ++ (bytes "\" target=\"" ++ (b ++ (bytes "\"/>" ++ r))))))
spelled w (empty_arc i a b) r = bytes "<arc id=\"" ++ (i ++ (bytes "\" source=\"" ++ (a ++ (bytes "\" target=\"" ++ (b ++ (bytes "\">" ++ (w ++ (bytes "</arc>" ++ r))))))))
spelled w (inscribed_arc i a b n) r =
    bytes "<arc id=\"" ++ (i ++ (bytes "\" source=\"" ++ (a ++ (bytes "\" target=\"" ++ (b
    ++ (bytes "\">" ++ (w ++ (bytes "<inscription>" ++ (w ++ (bytes "<text>" ++ (n ++ (bytes "</text>" ++ (w ++ (bytes "</inscription>" ++ (w ++ (bytes "</arc>" ++ r))))))))))))))))

-- one after the other
unfoldable pub spelled_all : List ℕ → List Spelling → List ℕ → List ℕ
spelled_all w [] r = r
spelled_all w (x ∷ l) r = spelled w x (w ++ spelled_all w l r)

-- the end of a text, and a text
abbrev pub spelled_end : List ℕ → List ℕ
spelled_end w = bytes "</page>" ++ (w ++ (bytes "</net>" ++ (w ++ (bytes "</pnml>" ++ w))))

unfoldable pub spelled_text : List ℕ → List ℕ → List ℕ → List Spelling → List ℕ
spelled_text w n g l =
    w ++ (bytes "<pnml xmlns=\"http://www.pnml.org/version-2009/grammar/pnml\">" ++ (w ++ (bytes "<net id=\"" ++ (n ++ (bytes "\" type=\"http://www.pnml.org/version-2009/grammar/ptnet\">"
    ++ (w ++ (bytes "<page id=\"" ++ (g ++ (bytes "\">" ++ (w ++ spelled_all w l (spelled_end w)))))))))))

-- the round trip: every text that is written so is of the profile, and says what it was written from
pub record Returns (w n g : List ℕ) (l : List Spelling) : Type 0 where
  pub taken : of_profile (spelled_text w n g l) ≡ true
  pub heads : (drawing (spelled_text w n g l)).heads ≡ n ∷ g ∷ []
  pub elements : (drawing (spelled_text w n g l)).elements ≡ map meaning l
