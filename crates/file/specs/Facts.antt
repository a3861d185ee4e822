-- What is known of a file that can be read, by its header: for callers of the reader, not for a reader of the contracts.
use Rattle.std.specs.Prelude.{ℕ, ◌+◌, ◌*◌, ◌≤◌, ◌<◌, false, ◌≡◌, List, [], ◌∷◌, map, length}
use Rattle.net.specs.Net.{WithinCaps}
use Rattle.file_words.specs.Word.{byte_at}
use Rattle.file_arcs.specs.Refusal.{key}
use Rattle.file_arcs.specs.Facts.{InRange, OrderedFrom}
use Rattle.file_header.specs.Layout.{header_of}
use Rattle.file_header.specs.Refusal.{kind_wrong}
use Rattle.file_header.specs.Facts.{Placed}
use Rattle.file_header.specs.declared.Due.{Due}
use Rattle.file_header.specs.declared.Header.{Header}
use Rattle.file.specs.Layout.{net_from, slice_from}
use Rattle.file.specs.Refusal.{file_refusal}

-- each number is at least `least`, and above the one before
abbrev pub RisingFrom : ℕ → List ℕ → Type 0
RisingFrom least [] = Unit {0}
RisingFrom least (x ∷ rest) = (least ≤ x) × RisingFrom (x + 1) rest

-- the parts lie inside, no marking is above its cap, the arcs are in range and in order, the origins rise
pub record Sound (s : List ℕ) (h : Header) : Type 0 where
  pub placed : Placed (length s) h
  pub caps : WithinCaps (net_from s h) (net_from s h).marking
  pub arcs : InRange h.places h.transitions (net_from s h).arcs
  pub zeros : (i : ℕ) → i < h.arcs → byte_at s (h.arcstart + 8 * i + 3) ≡ 0
  pub order : OrderedFrom 0 (map key (net_from s h).arcs)
  pub place_origins : h.kind ≡ 1 → RisingFrom 0 (slice_from s h).place_origins
  pub transition_origins : h.kind ≡ 1 → RisingFrom 0 (slice_from s h).transition_origins

-- what a caller knows once a file was read
pub record Opened (due : Due) (s : List ℕ) (h : Header) : Type 0 where
  pub same : h ≡ header_of s
  pub read : file_refusal due s ≡ 0
  pub kind : kind_wrong due h.kind ≡ false
  pub good : Sound s h
