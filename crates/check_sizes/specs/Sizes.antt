-- Nets of at most so many places and transitions.
use Rattle.std.specs.Prelude.{ℕ, ◌≤◌}
use Rattle.net.specs.Slice.{Slice}
use Rattle.file_header.specs.declared.Header.{Header}
use Rattle.rules_origins.specs.Known.{Known}

-- the plan knows every place and transition of the slice: rules 1 and 2
pub record KnownIn (hp : Header) (S : Slice) : Type 0 where
  pub places : Known hp.places S.place_origins
  pub transitions : Known hp.transitions S.transition_origins

-- the plan has at most n places and transitions, and the slice at most n transitions
pub record Within (n : ℕ) (hp hs : Header) : Type 0 where
  pub places : hp.places ≤ n
  pub transitions : hp.transitions ≤ n
  pub own : hs.transitions ≤ n
