-- A slice that the check from a start accepts, and our safety cut from there.
use Rattle.std.specs.Prelude.{ℕ, ◌≤◌, List, ◌≡◌, length, take}
use Rattle.net.specs.Guarantee.{Guarantee, Contains}
use Rattle.file.specs.Layout.{slice_of}
use Rattle.promise.specs.Starts.{net_at, safety_from_answer}

-- `buffer` is what was lent to the cut, `exit` what it left
pub record NoSmaller (plan start Q other buffer exit : List ℕ) : Type 0 where
  -- our cut was written, with these counts
  pub wrote : (safety_from_answer plan start Q (length buffer)).refusal ≡ 0
  pub own_places : (safety_from_answer plan start Q (length buffer)).places ≡ (slice_of (take (safety_from_answer plan start Q (length buffer)).length exit)).net.places
  pub own_transitions : (safety_from_answer plan start Q (length buffer)).transitions ≡ (slice_of (take (safety_from_answer plan start Q (length buffer)).length exit)).net.transitions
  -- the other has all of it, so at least as many
  pub contains : Contains (slice_of other) (slice_of (take (safety_from_answer plan start Q (length buffer)).length exit))
  pub places : (safety_from_answer plan start Q (length buffer)).places ≤ (slice_of other).net.places
  pub transitions : (safety_from_answer plan start Q (length buffer)).transitions ≤ (slice_of other).net.transitions
  -- and what the checker guarantees of it, from the start
  pub guarantee : Guarantee (net_at plan start) (slice_of other) Q
