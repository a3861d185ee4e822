-- A kept transition's run of arcs in the plan, walked against its run in the slice.
use Rattle.std.specs.Prelude.{ℕ, ◌+◌, ◌*◌, ◌-◌, ◌/◌, ◌%◌, ◌≤◌, ◌<◌, Bool, true, false, ◌≡◌, List, ◌∷◌, T, length, get_or}
use Rattle.net.specs.Numbers.{among, position}
use Rattle.net.specs.Slice.{restrict}
use Rattle.net.specs.Checker.{same_arcs}
use Rattle.net.specs.declared.Arc.{Arc}
use Rattle.file_words.specs.Word.{byte_at}
use Rattle.file_arcs.specs.Layout.{arc_at, arcs_from}
use Rattle.file.specs.Layout.{slice_from}
use Rattle.file.specs.Facts.{Sound}
use Rattle.file_header.specs.declared.Header.{Header}
use Rattle.numbering.specs.Own.{Own}

-- the arcs from..to stand in the file, and are at places below P
pub record Run (s : List ℕ) (start from to P : ℕ) : Type 0 where
  pub rising : from ≤ to
  pub fit : start + 8 * to ≤ length s
  pub short : length s ≤ 65536
  pub reached : (i : ℕ) → i < to → (arc_at s (start + 8 * i)).place < P

-- an arc from..to has a wanted place without an own number, or none has
pub record Unkept (s : List ℕ) (start from to : ℕ) (wanted : ℕ → Bool) (ownp : List ℕ) (r : Bool) : Type 0 where
  pub found : r ≡ true → (i : ℕ) × (from ≤ i) × (i < to) × T (wanted (arc_at s (start + 8 * i)).place) × (get_or ownp (arc_at s (start + 8 * i)).place 0 ≡ 0)
  pub none : r ≡ false → (i : ℕ) → from ≤ i → i < to → T (wanted (arc_at s (start + 8 * i)).place) → get_or ownp (arc_at s (start + 8 * i)).place 0 ≡ 0 → ⊥

-- the arc with these numbers of its transition and place
abbrev pub numbered : Arc → ℕ → ℕ → Arc
numbered a t p = record { transition = t; direction = a.direction; place = p; weight = a.weight }

-- the same of its 8 bytes as one number: the direction and the zero byte, and the weight, stay
abbrev pub renumbered : ℕ → ℕ → ℕ → ℕ
renumbered w t p = t + w / 65536 % 65536 * 65536 + 4294967296 * p + w / 281474976710656 * 281474976710656

-- the slice's arcs from k to `upto`
abbrev pub arcs_left : List ℕ → Header → ℕ → ℕ → List Arc
arcs_left slice hs k upto = arcs_from slice (hs.arcstart + 8 * k) (upto - k)

-- plan arcs "to kept places, renumbered"
abbrev pub kept : List ℕ → Header → List Arc → List Arc
kept slice hs arcs = restrict (slice_from slice hs).place_origins (slice_from slice hs).transition_origins arcs

-- the plan's arc at `at` is of a kept transition with this own number
pub record Walk (plan : List ℕ) (at : ℕ) (slice : List ℕ) (hs : Header) (ownp : List ℕ) (own : ℕ) : Type 0 where
  pub fit : at + 8 ≤ length plan
  pub reached : (arc_at plan at).place < length ownp
  pub zero : byte_at plan (at + 3) ≡ 0
  pub held : among (arc_at plan at).transition (slice_from slice hs).transition_origins ≡ true
  pub number : position (arc_at plan at).transition (slice_from slice hs).transition_origins ≡ own
  pub low : own < 65536

-- the slice's arcs from k to `upto` stand in the slice, whose own places are in the table
pub record Against (slice : List ℕ) (hs : Header) (k upto : ℕ) (ownp : List ℕ) : Type 0 where
  pub sliced : Sound slice hs
  pub places : Own (slice_from slice hs).place_origins ownp
  pub rising : k ≤ upto
  pub within : upto ≤ hs.arcs

-- arc a, and those after it, against the slice's arcs from k on: they differ where r is past `upto`; else the arcs after it are against those from r on
pub record Step (a : Arc) (slice : List ℕ) (hs : Header) (k upto r : ℕ) : Type 0 where
  pub least : k ≤ r
  pub differs : upto < r → (rest : List Arc) → same_arcs (arcs_left slice hs k upto) (kept slice hs (a ∷ rest)) ≡ false
  pub agrees : r ≤ upto → (rest : List Arc) → same_arcs (arcs_left slice hs k upto) (kept slice hs (a ∷ rest)) ≡ same_arcs (arcs_left slice hs r upto) (kept slice hs rest)
