-- The trailer of a file, and where the parts of its body start: the section "Plan and slice files" of document 01.
-- Each definition is for every byte string; it means something where the file can be read.
use Rattle.std.specs.Prelude.{ℕ, zero, suc, ◌+◌, ◌-◌, ◌*◌, Bool, true, false, List, length, eqb}
use Rattle.file_words.specs.Word.{byte_at, le16, le32}
use Rattle.file_header.specs.declared.Trailer.{Trailer}
use Rattle.file_header.specs.declared.Header.{Header}

-- "a trailer of 16 bytes", by offset: body length 0, P 4, T 6, A 8, kind 10, edition 11, letters 12
unfoldable pub trailer_of : List ℕ → Trailer
trailer_of s =
    let at = length s - 16 in
    record {
      body = le32 s at;
      places = le16 s (at + 4);
      transitions = le16 s (at + 6);
      arcs = le16 s (at + 8);
      kind = byte_at s (at + 10);
      edition = byte_at s (at + 11);
      letters = le32 s (at + 12);
    }

-- "In a slice only": kind 0 is a plan, 1 a slice
abbrev pub in_slice : ℕ → ℕ → ℕ
in_slice zero n = 0
in_slice (suc k) n = n

-- the first in edition 2, the second in edition 1
abbrev pub pick : Bool → ℕ → ℕ → ℕ
pick true two one = two
pick false two one = one

-- n places: "initial markings of 4 bytes"; "Edition 2 plans give each place 8 bytes: marking, then a cap of 4 bytes" (document 02, A9)
abbrev pub places_length : ℕ → ℕ → ℕ
places_length edition n = pick (eqb edition 2) (8 * n) (4 * n)

-- "P place origins, then T transition origins, 2 bytes each"
abbrev pub origins_length : Trailer → ℕ
origins_length t = in_slice t.kind (2 * t.places + 2 * t.transitions)

-- "the body length is 4P + 8A, and in a slice 2P + 2T more"; "becomes 8P + 8A, plus origins"
abbrev pub body_length : Trailer → ℕ
body_length t = places_length t.edition t.places + 8 * t.arcs + origins_length t

-- where the parts of the body start, in a file of n bytes: "The body ends where the trailer starts"
abbrev pub header_from : ℕ → Trailer → Header
header_from n t =
    record {
      places = t.places;
      transitions = t.transitions;
      arcs = t.arcs;
      kind = t.kind;
      edition = t.edition;
      markstart = n - 16 - t.body;
      arcstart = n - 16 - t.body + places_length t.edition t.places;
      originstart = n - 16 - t.body + places_length t.edition t.places + 8 * t.arcs;
    }

-- the counts of a file, and where its parts start
unfoldable pub header_of : List ℕ → Header
header_of s = header_from (length s) (trailer_of s)
