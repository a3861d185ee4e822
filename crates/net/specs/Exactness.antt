-- Slices that show the plan's tokens on every kept place, "beyond the criterion" (document 02, A8).
use Rattle.std.specs.Prelude.{ℕ, ◌<◌, List, ◌≡◌, T}
use Rattle.net.specs.Net.{Marking, Net, changes, Supplied, fire}
use Rattle.net.specs.Cut.{branching}
use Rattle.net.specs.Slice.{Slice, HasPlace, HasTransition, cut}

-- "no left-out transition changes a kept place": what changes one is kept
unfoldable pub KeepsChangers : Net → Slice → Type 0
KeepsChangers N S = (t p : ℕ) → t < N.transitions → HasPlace S p → T (changes N t p) → HasTransition S t

-- the same by firing: one that is left out leaves the tokens on a kept place as they are, whatever the marking that it fires from
unfoldable pub Undisturbed : Net → Slice → Type 0
Undisturbed N S = (t p : ℕ) (M : Marking) → t < N.transitions → ¬ HasTransition S t → HasPlace S p → Supplied N t M → fire N t M p ≡ M p

-- "the branching cut", which is such a slice
abbrev pub branching_cut : Net → List ℕ → Slice
branching_cut N Q = cut N (branching N Q)
