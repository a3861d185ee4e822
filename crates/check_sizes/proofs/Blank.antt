-- Tables that tell all places and transitions as left out.
use Prim.Native.Nat.{ℕ, ◌≤◌}
use native.Mathlib.Omega.{arith}
use lib.ListN.{replicate, length-replicate, get_or-replicate}
use Rattle.net.specs.Slice.{Slice}
use Rattle.file_header.specs.declared.Header.{Header}
use Rattle.check_fast.specs.Entries.{left_place, left_transition}
use Rattle.check_fast.specs.Pass.{Blank}
use Rattle.check_sizes.specs.Sizes.{KnownIn}

-- tables of n entries, all of them left out
pub blank : (hp : Header) (S : Slice) (n : ℕ) → n ≤ 1024 → hp.places ≤ n → hp.transitions ≤ n → KnownIn hp S → Blank hp S (replicate n left_place) (replicate n left_transition)
blank hp S n few p t k = record {
  places_reached = omega (arith, length-replicate n left_place);
  transitions_reached = omega (arith, length-replicate n left_transition);
  origins = record { few = omega (arith, length-replicate n left_place); at = λ i l. omega (arith, length-replicate n left_place, k.places.at i l) };
  origins_of_transitions = record { few = omega (arith, length-replicate n left_transition); at = λ i l. omega (arith, length-replicate n left_transition, k.transitions.at i l) };
  place_entry = λ x l. get_or-replicate n x left_place 0 (omega (arith, length-replicate n left_place));
  transition_entry = λ x l. get_or-replicate n x left_transition 0 (omega (arith, length-replicate n left_transition));
}
