-- A slice that is closed under a cut's two relations contains the cut.
use Prim.Native.Nat.{ℕ, ◌<◌, ◌≤◌}
use native.Mathlib.Omega.{arith}
use lib.ListN.{length}
use lib.Dec.{T}
use Rattle.net.specs.Numbers.{among}
use Rattle.net.specs.Net.{Net}
use Rattle.net.specs.Cut.{Growth, kept_places, kept_transitions}
use Rattle.net.specs.Slice.{Slice, HasPlace, HasTransition, keeping, cut, WellFormed}
use Rattle.net.specs.Guarantee.{Contains}
use Rattle.net.proofs.Numbers.{fewest}
use Rattle.net.proofs.Closure.{Closed, least_place, least_transition, kept-place, kept-transition, places_rise, transitions_rise}

module _ (N : Net) (S : Slice) (G : Growth) (w : WellFormed S) (closed : Closed G (HasPlace S) (HasTransition S))
    (known : (q : ℕ) → T (among q G.criterion) → q < G.places) where
  place_kept : (p : ℕ) → T (among p (kept_places G)) → HasPlace S p
  place_kept p h = least_place G _ _ closed ((kept-place G known p).1 h)

  transition-kept : (t : ℕ) → T (among t (kept_transitions G)) → HasTransition S t
  transition-kept t h = least_transition G _ _ closed ((kept-transition G known t).1 h)

  fewer-places : length (kept_places G) ≤ S.net.places
  fewer-places = rw (← w.place_count) (fewest (kept_places G) S.place_origins (places_rise G) w.places_rise place_kept)

  fewer-transitions : length (kept_transitions G) ≤ S.net.transitions
  fewer-transitions = rw (← w.transition_count) (fewest (kept_transitions G) S.transition_origins (transitions_rise G) w.transitions_rise transition-kept)

  pub closed_contains : Contains S (cut N G)
  unfolding cut keeping
  closed_contains = record {
    places = search place_kept;
    transitions = search transition-kept;
    place_count = omega (arith, fewer-places);
    transition_count = omega (arith, fewer-transitions);
  }
