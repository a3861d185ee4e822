-- What people conclude from the check's answer and from the published slices, and from a cut for no place.
use Rattle.std.specs.Prelude.{ℕ, ◌+◌, ◌≤◌, List, [], ◌≡◌, ◌↔◌, length, T}
use Rattle.net.specs.Net.{replay}
use Rattle.net.specs.Slice.{Slice, HasPlace, HasTransition}
use Rattle.net.specs.Checker.{rules}
use Rattle.net.specs.Guarantee.{Contains}
use Rattle.net.specs.Conclusions.{Unbroken, BrokenFirst}
use Rattle.net.specs.Rakow.{Set}
use Rattle.file.specs.Layout.{net_of, slice_of}
use Rattle.promise.specs.Calls.{safety_answer, safety_buffer, branching_answer, branching_buffer, checked, checked_bytes, Accepts}
use Rattle.promise.specs.Firing.{list_refusal, replay_told}
use Rattle.promise.specs.Shadow.{shadow_answer}

-- the answer of a check that is not turned back
pub record Tells (plan slice Q : List ℕ) : Type 0 where
  -- accepted exactly if no rule is broken
  pub accepted : Accepts plan slice Q ↔ Unbroken (rules (net_of plan) (slice_of slice) Q)
  -- else a rule is told
  pub told : ¬ Accepts plan slice Q → (k : ℕ) × ((checked plan slice Q).code ≡ 100 + k)
  -- which is the first that is broken, at the lowest number
  pub first : (k : ℕ) → (checked plan slice Q).code ≡ 100 + k → BrokenFirst (rules (net_of plan) (slice_of slice) Q) k (checked plan slice Q).number

-- the slice keeps a place, or a transition, exactly if every run of the listing returns it, and exactly if some run does
pub record AsListed (S : Slice) (Run : Set → Set → Type 0) : Type 0 where
  pub places_every : (p : ℕ) → HasPlace S p ↔ ((P' T' : Set) → Run P' T' → T (P' p))
  pub places_some : (p : ℕ) → HasPlace S p ↔ ((P' : Set) × (T' : Set) × Run P' T' × T (P' p))
  pub transitions_every : (t : ℕ) → HasTransition S t ↔ ((P' T' : Set) → Run P' T' → T (T' t))
  pub transitions_some : (t : ℕ) → HasTransition S t ↔ ((P' : Set) × (T' : Set) × Run P' T' × T (T' t))

-- both cuts for no place, with 16 bytes lent: what they wrote
pub record CutForNothing (plan buffer : List ℕ) : Type 0 where
  pub same_answer : branching_answer plan [] (length buffer) ≡ safety_answer plan [] (length buffer)
  pub same_bytes : branching_buffer plan [] buffer ≡ safety_buffer plan [] buffer
  -- the C check accepts it, its criterion having no bytes
  pub accepted : checked_bytes plan (safety_buffer plan [] buffer) [] ≡ 0
  -- and every slice that is accepted for no place contains it
  pub smallest : (other : List ℕ) → Accepts plan other [] → Contains (slice_of other) (slice_of (safety_buffer plan [] buffer))
  -- the shadow of a list that is not refused is empty, and no entry need be lent for it
  pub shadow : (list : List ℕ) (room : ℕ) → list_refusal (net_of plan).transitions list ≡ 0 → (net_of plan).places ≤ room
      → shadow_answer plan (safety_buffer plan [] buffer) list room 0 ≡ record { run = replay_told (replay (net_of plan) list).answer; count = 0 }
