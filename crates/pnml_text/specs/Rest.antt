-- What is left of a text in PNML: the steps of which the profile is made (document 02, A10). "Nothing else is taken": each step goes on where the one before it ended.
use Rattle.std.specs.Prelude.{ℕ, ◌+◌, ◌-◌, ◌*◌, List, [], ◌∷◌, Bool, true, false, ◌||◌, length, drop, eqb, ltb, leb}
use Rattle.pnml_text.specs.Characters.{goes_on, kind_of}
use Rattle.pnml_text.specs.declared.Run.{Run}
use Rattle.pnml_text.specs.declared.Run.TheVariants.{Spaces, Digits, Id}

-- what is left, or that the text is outside the profile
pub data Rest : Type 0 where
  outside : Rest
  more : List ℕ → Rest

-- the first where the test holds, else the second
abbrev pub if_more : Bool → Rest → Rest → Rest
if_more true a b = a
if_more false a b = b

abbrev pub if_bytes : Bool → List ℕ → List ℕ → List ℕ
if_bytes true a b = a
if_bytes false a b = b

abbrev pub if_number : Bool → ℕ → ℕ → ℕ
if_number true a b = a
if_number false a b = b

-- the word w stands next
unfoldable pub strip : List ℕ → List ℕ → Rest
strip [] s = more s
strip (a ∷ w) [] = outside
strip (a ∷ w) (b ∷ s) = if_more (eqb b a) (strip w s) outside

-- and what is left after it
abbrev pub word : List ℕ → Rest → Rest
word w outside = outside
word w (more s) = strip w s

-- the longest run of characters of that sort
unfoldable pub front : Run → List ℕ → List ℕ
front c [] = []
front c (b ∷ s) = if_bytes (goes_on c (kind_of b)) (b ∷ front c s) []

-- and what stands after it
unfoldable pub past : Run → List ℕ → List ℕ
past c [] = []
past c (b ∷ s) = if_bytes (goes_on c (kind_of b)) (past c s) (b ∷ s)

-- what is left, as bytes
abbrev pub left : Rest → List ℕ
left outside = []
left (more s) = s

-- white space, or none
abbrev pub spaces : Rest → Rest
spaces outside = outside
spaces (more s) = more (past Spaces s)

-- "ids have 1 to 32 characters"
abbrev pub id_wrong : ℕ → Bool
id_wrong n = eqb n 0 || ltb 32 n

-- an id stands next
abbrev pub id : Rest → Rest
id outside = outside
id (more s) = if_more (id_wrong (length (front Id s))) outside (more (past Id s))

-- the id that stands next
abbrev pub id_of : Rest → List ℕ
id_of r = front Id (left r)

-- "one or more decimal digits"
abbrev pub digits : Rest → Rest
digits outside = outside
digits (more s) = if_more (eqb (length (front Digits s)) 0) outside (more (past Digits s))

-- the number that digits write, after those that wrote n
unfoldable pub decimal : ℕ → List ℕ → ℕ
decimal n [] = n
decimal n (b ∷ s) = decimal (10 * n + (b - 48)) s

-- a number past 4294967295 counts as 4294967296, which is past every limit too
abbrev pub capped : ℕ → ℕ
capped n = if_number (leb n 4294967296) n 4294967296

-- the number that stands next
abbrev pub number_of : Rest → ℕ
number_of r = capped (decimal 0 (front Digits (left r)))

-- what is left of the text s from a position on; past its end, the text is outside the profile
unfoldable pub rest_at : List ℕ → ℕ → Rest
rest_at s at = if_more (leb at (length s)) (more (drop at s)) outside
