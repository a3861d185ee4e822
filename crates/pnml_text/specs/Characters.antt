-- The characters of a text in PNML, by kind (document 02, A10).
use Rattle.std.specs.Prelude.{ℕ, Bool, true, false, ◌||◌, ◌&&◌, eqb, leb}
use Rattle.pnml_text.specs.declared.Kind.{Kind}
use Rattle.pnml_text.specs.declared.Kind.TheVariants.{Letter, Digit, Mark, Space, Other}
use Rattle.pnml_text.specs.declared.Run.{Run}
use Rattle.pnml_text.specs.declared.Run.TheVariants.{Spaces, Digits, Id}

-- "White space (bytes 9, 10, 13, 32)"
abbrev pub is_space : ℕ → Bool
is_space b = eqb b 9 || eqb b 10 || eqb b 13 || eqb b 32

-- "decimal digits"
abbrev pub is_digit : ℕ → Bool
is_digit b = leb 48 b && leb b 57

-- "A character of an id is a letter, a digit, or one of - _ .", "letters being A to Z and a to z"
abbrev pub is_id : ℕ → Bool
is_id b = ((leb 65 b && leb b 90) || (leb 97 b && leb b 122)) || is_digit b || (eqb b 45 || eqb b 95 || eqb b 46)

-- ---- for the code: each byte is of one kind, and a run goes on with some kinds

abbrev pub is_letter : ℕ → Bool
is_letter b = (leb 65 b && leb b 90) || (leb 97 b && leb b 122)

abbrev pub is_mark : ℕ → Bool
is_mark b = eqb b 45 || eqb b 95 || eqb b 46

-- the first where the test holds, else the second
abbrev pub if_kind : Bool → Kind → Kind → Kind
if_kind true a b = a
if_kind false a b = b

-- the kind of a byte
unfoldable pub kind_of : ℕ → Kind
kind_of b = if_kind (is_letter b) Letter (if_kind (is_digit b) Digit (if_kind (is_mark b) Mark (if_kind (is_space b) Space Other)))

-- which characters a run is of: white space, digits, or an id
abbrev pub goes_on : Run → Kind → Bool
goes_on Spaces Space = true
goes_on Spaces Letter = false
goes_on Spaces Digit = false
goes_on Spaces Mark = false
goes_on Spaces Other = false
goes_on Digits Digit = true
goes_on Digits Letter = false
goes_on Digits Mark = false
goes_on Digits Space = false
goes_on Digits Other = false
goes_on Id Letter = true
goes_on Id Digit = true
goes_on Id Mark = true
goes_on Id Space = false
goes_on Id Other = false
