-- What is known of arcs that can be read: for callers of the reader, not for a reader of the contracts.
use Rattle.std.specs.Prelude.{◌≡◌, ℕ, ◌+◌, ◌*◌, ◌/◌, ◌%◌, ◌<◌, ◌≤◌, Bool, ◌||◌, List, [], ◌∷◌, ◌==◌, nat_le, nat_lt}
use Rattle.net.specs.declared.Arc.{Arc}
use Rattle.file_words.specs.Word.{byte_at, le64}
use Rattle.file_arcs.specs.Layout.{arc_at}

-- the fields of an arc as they can be in 8 bytes
pub record ArcSmall (a : Arc) : Type 0 where
  pub direction : a.direction < 256
  pub place : a.place < 65536
  pub transition : a.transition < 65536
  pub weight : a.weight < 65536

-- the arc in the number that its 8 bytes are, low byte first
abbrev pub arc_of : ℕ → Arc
arc_of w =
    record {
      transition = w % 65536;
      direction = w / 65536 % 256;
      place = w / 4294967296 % 65536;
      weight = w / 281474976710656;
    }

-- w is the 8 bytes at `at`
pub record ArcWord (s : List ℕ) (at w : ℕ) : Type 0 where
  pub sum : w ≡ le64 s at
  pub arc : arc_of w ≡ arc_at s at
  pub middle : w / 65536 % 65536 ≡ byte_at s (at + 2) + 256 * byte_at s (at + 3)

-- refusal 6 with direction and zero byte as one number
abbrev pub arc_unfit : ℕ → ℕ → Arc → ℕ → Bool
arc_unfit P T a middle = nat_lt 1 middle || nat_le P a.place || nat_le T a.transition || a.weight == 0

-- an arc that refusal 6 lets pass
pub record ArcGood (P T : ℕ) (a : Arc) : Type 0 where
  pub direction : a.direction ≤ 1
  pub place : a.place < P
  pub transition : a.transition < T
  pub weight : 1 ≤ a.weight

-- every arc of a list is good
abbrev pub InRange : ℕ → ℕ → List Arc → Type 0
InRange P T [] = Unit {0}
InRange P T (a ∷ rest) = ArcGood P T a × InRange P T rest

-- each number is at least `least`, and not below the one before
abbrev pub OrderedFrom : ℕ → List ℕ → Type 0
OrderedFrom least [] = Unit {0}
OrderedFrom least (x ∷ rest) = (least ≤ x) × OrderedFrom x rest
