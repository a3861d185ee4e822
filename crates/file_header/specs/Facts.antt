-- What is known of a trailer and a header that can be read: for callers of the reader, not for a reader of the contracts.
use Rattle.std.specs.Prelude.{ℕ, ◌+◌, ◌*◌, ◌≤◌, ◌≡◌}
use Rattle.file_header.specs.Layout.{places_length, in_slice}
use Rattle.file_header.specs.declared.Header.{Header}
use Rattle.file_header.specs.declared.Trailer.{Trailer}

-- the counts are within their limits
pub record Counts (t : Trailer) : Type 0 where
  pub places : t.places ≤ 1024
  pub transitions : t.transitions ≤ 1024
  pub arcs : t.arcs ≤ 4096

-- the counts are within their limits, and each part lies within a file of n bytes
pub record Placed (n : ℕ) (h : Header) : Type 0 where
  pub short : n ≤ 65536
  pub kind : h.kind ≤ 1
  pub edition_small : h.edition ≤ 2
  pub places : h.places ≤ 1024
  pub transitions : h.transitions ≤ 1024
  pub arcs : h.arcs ≤ 4096
  pub markings_fit : h.markstart + places_length h.edition h.places ≡ h.arcstart
  pub arcs_fit : h.arcstart + 8 * h.arcs ≡ h.originstart
  pub origins_fit : h.originstart + in_slice h.kind (2 * h.places + 2 * h.transitions) + 16 ≡ n
