-- A normal form for plans (document 02, A13): parallel arcs joined, and what two plans with one normal form have in common.
use Rattle.std.specs.Prelude.{ℕ, ◌+◌, ◌<◌, ◌≤◌, true, false, List, [], ◌∷◌, ◌≡◌, ◌↔◌}
use Rattle.net.specs.Net.{Marking, Net, joins, input, output, Fires, after, replay_from}
use Rattle.net.specs.declared.Arc.{Arc}

-- an arc with n more to its weight
abbrev pub heavier : Arc → ℕ → Arc
heavier a n = record { transition = a.transition; direction = a.direction; place = a.place; weight = a.weight + n }

-- an arc before arcs that are joined: one arc with the first of them, of both weights, where that joins the same two in the same direction
unfoldable pub joined_to : Arc → List Arc → List Arc
joined_to a [] = a ∷ []
joined_to a (b ∷ rest) = elim (joins a.direction a.place a.transition b) [ true ↦ heavier a b.weight ∷ rest | false ↦ a ∷ b ∷ rest ]

-- "parallel arcs joined": in order, they are neighbours
unfoldable pub joined : List Arc → List Arc
joined [] = []
joined (a ∷ rest) = joined_to a (joined rest)

-- the plan, "parallel arcs joined, everything else in order"
unfoldable pub normal_of : Net → Net
normal_of N = record { places = N.places; transitions = N.transitions; marking = N.marking; cap = N.cap; arcs = joined N.arcs }

-- "they have the same P, T, markings, caps, in and out"
pub record SameNet (N N' : Net) : Type 0 where
  pub places : N.places ≡ N'.places
  pub transitions : N.transitions ≡ N'.transitions
  pub markings : (p : ℕ) → p < N.places → N.marking p ≡ N'.marking p
  pub caps : (p : ℕ) → p < N.places → N.cap p ≡ N'.cap p
  pub inputs : (p t : ℕ) → p < N.places → t < N.transitions → input N p t ≡ input N' p t
  pub outputs : (p t : ℕ) → p < N.places → t < N.transitions → output N p t ≡ output N' p t

-- no "joined weight above 65,535"
unfoldable pub Light : Net → Type 0
Light N = (p t : ℕ) → p < N.places → t < N.transitions → (input N p t ≤ 65535) × (output N p t ≤ 65535)

-- "every firing list fares alike before and after", from the initial marking and from any other
pub record FaresAlike (N N' : Net) : Type 0 where
  pub start : N.marking ≡ N'.marking
  pub fires : (M : Marking) (ts : List ℕ) → Fires N M ts ↔ Fires N' M ts
  pub ends : (M : Marking) (ts : List ℕ) → after N M ts ≡ after N' M ts
  -- all fired, or the same index, short or full at the same place by the same amount; and the same marking
  pub replays : (i : ℕ) (M : Marking) (ts : List ℕ) → replay_from N i M ts ≡ replay_from N' i M ts
