-- What the checker looks up for a plan and a slice: where each transition's arcs start, and the slice's own numbers.
use Rattle.std.specs.Prelude.{ℕ, ◌*◌, ◌≤◌, ◌<◌, List, length, get_or}
use Rattle.file.specs.Layout.{slice_from}
use Rattle.file.specs.Facts.{Sound}
use Rattle.file_header.specs.declared.Header.{Header}
use Rattle.arcs_starts.specs.Table.{Split}
use Rattle.numbering.specs.Own.{Own}

-- entry k of the table is the number of the file's arcs whose slot is below k: inputs of t have slot 2t, outputs 2t + 1
pub record Starts (s : List ℕ) (h : Header) (table : List ℕ) : Type 0 where
  pub long : 2 * h.transitions < length table
  pub split : (k : ℕ) → k ≤ 2 * h.transitions → Split s h.arcstart h.arcs k (get_or table k 0)

-- a plan with its table of starts, and a slice with the tables of its own places and transitions
pub record Matched (plan : List ℕ) (hp : Header) (table : List ℕ) (slice : List ℕ) (hs : Header) (ownp ownt : List ℕ) : Type 0 where
  pub planned : Sound plan hp
  pub sliced : Sound slice hs
  pub starts : Starts plan hp table
  pub places : Own (slice_from slice hs).place_origins ownp
  pub transitions : Own (slice_from slice hs).transition_origins ownt
  pub places_reached : hp.places ≤ length ownp
  pub transitions_reached : hp.transitions ≤ length ownt
