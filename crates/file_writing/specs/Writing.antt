-- The bytes of a file without note (document 01, "Plan and slice files"): of a slice, "A slice written by a cut has no note"; of a plan, "without note" (document 02, A10 and A13).
use Rattle.std.specs.Prelude.{ℕ, zero, suc, ◌+◌, ◌*◌, List, [], ◌∷◌, ◌++◌, Bool, true, false, length, eqb}
use Rattle.net.specs.Net.{Net}
use Rattle.net.specs.Slice.{Slice}
use Rattle.net.specs.declared.Arc.{Arc}
use Rattle.file_words.specs.Word.{bytes16, bytes32}
use Rattle.file_header.specs.Layout.{places_length}

-- "marking, then a cap of 4 bytes" in edition 2; in edition 1 the marking alone
abbrev pub place_bytes : Bool → ℕ → ℕ → List ℕ
place_bytes true marking cap = bytes32 marking ++ bytes32 cap
place_bytes false marking cap = bytes32 marking

-- n places, from place p on, with their markings and caps
unfoldable pub places_bytes : ℕ → (ℕ → ℕ) → (ℕ → ℕ) → ℕ → ℕ → List ℕ
places_bytes edition marking cap p zero = []
places_bytes edition marking cap p (suc n) = place_bytes (eqb edition 2) (marking p) (cap p) ++ places_bytes edition marking cap (suc p) n

-- "transition (2), direction (1), a zero byte, place (2), weight (2)"
unfoldable pub arc_bytes : Arc → List ℕ
arc_bytes a = bytes16 a.transition ++ (a.direction ∷ 0 ∷ []) ++ bytes16 a.place ++ bytes16 a.weight

-- "arcs of 8 bytes"
unfoldable pub arcs_bytes : List Arc → List ℕ
arcs_bytes [] = []
arcs_bytes (a ∷ rest) = arc_bytes a ++ arcs_bytes rest

-- a table of origins, "2 bytes each"
unfoldable pub origins_bytes : List ℕ → List ℕ
origins_bytes [] = []
origins_bytes (o ∷ rest) = bytes16 o ++ origins_bytes rest

-- body length (4), P (2), T (2), A (2), kind, edition, the letters BELL
unfoldable pub trailer_bytes : ℕ → ℕ → ℕ → ℕ → ℕ → ℕ → List ℕ
trailer_bytes kind edition body P T A = bytes32 body ++ bytes16 P ++ bytes16 T ++ bytes16 A ++ (kind ∷ edition ∷ 0x42 ∷ 0x45 ∷ 0x4C ∷ 0x4C ∷ [])

-- "the body length is 4P + 8A"; in edition 2 it "becomes 8P + 8A"
unfoldable pub plan_body : ℕ → Net → ℕ
plan_body edition N = places_length edition N.places + 8 * length N.arcs

-- the whole file of a plan, of that edition: kind 0
unfoldable pub plan_bytes : ℕ → Net → List ℕ
plan_bytes edition N =
    places_bytes edition N.marking N.cap 0 N.places ++ arcs_bytes N.arcs
    ++ trailer_bytes 0 edition (plan_body edition N) N.places N.transitions (length N.arcs)

-- "and in a slice 2P + 2T more"
unfoldable pub slice_body : ℕ → Slice → ℕ
slice_body edition S = places_length edition S.net.places + 8 * length S.net.arcs + 2 * S.net.places + 2 * S.net.transitions

-- the whole file of a slice, of that edition: kind 1
unfoldable pub slice_bytes : ℕ → Slice → List ℕ
slice_bytes edition S =
    places_bytes edition S.net.marking S.net.cap 0 S.net.places ++ arcs_bytes S.net.arcs
    ++ origins_bytes S.place_origins ++ origins_bytes S.transition_origins
    ++ trailer_bytes 1 edition (slice_body edition S) S.net.places S.net.transitions (length S.net.arcs)
