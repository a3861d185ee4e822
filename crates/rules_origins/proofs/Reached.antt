-- From a slice that was read to its two tables of origins.
use Prim.Native.Nat.{ℕ, ◌+◌, ◌*◌}
use mathlib.Core.Path.{◌≡◌}
use mathlib.Core.List.{List}
use native.Mathlib.Omega.{arith}
use lib.ListN.{length}
use Rattle.file.specs.Facts.{Sound}
use Rattle.file_header.specs.declared.Header.{Header}
use Rattle.numbering.specs.Own.{Origins}

module _ (s : List ℕ) (h : Header) (w : Sound s h) (k : h.kind ≡ 1) where
  whole : h.originstart + (2 * h.places + 2 * h.transitions) + 16 ≡ length s
  whole = rw k at w.placed.origins_fit

  pub place-origins : Origins s h.originstart h.places
  place-origins = record { fit = omega (arith, whole); few = w.placed.places; rise = w.place_origins k }

  pub origins_of_transitions : Origins s (h.originstart + 2 * h.places) h.transitions
  origins_of_transitions = record { fit = omega (arith, whole); few = w.placed.transitions; rise = w.transition_origins k }
