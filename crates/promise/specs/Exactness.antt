-- Exact tokens on the branching cut (document 02, A8), over files.
use Rattle.std.specs.Prelude.{ℕ, ◌+◌, ◌≤◌, List, ◌≡◌, take}
use Rattle.net.specs.Net.{Net}
use Rattle.net.specs.Slice.{HasPlace}
use Rattle.net.specs.Guarantee.{PlanFires, plan_tokens, SliceFires, slice_tokens, struck, Contains}
use Rattle.net.specs.Exactness.{KeepsChangers, Undisturbed}
use Rattle.net.specs.Conclusions.{SameVerdict, SameKept}
use Rattle.file.specs.Layout.{slice_of}
use Rattle.promise.specs.Calls.{CutAnswer}

-- the slice file S has the tokens of the net N, that of the plan, on all its places, and is the smallest of its class; `accepts` is the checker's yes to a slice
pub record SmallestExact (accepts : List ℕ → Type 0) (N : Net) (S : List ℕ) : Type 0 where
  -- "for every list that fires in the plan, its shadow in the branching cut ends with the plan's tokens on every kept place"
  pub shadow_fires : (ts : List ℕ) → PlanFires N ts → SliceFires (slice_of S) (struck (slice_of S) ts)
  pub shadow_tokens : (ts : List ℕ) → PlanFires N ts → (p : ℕ) → HasPlace (slice_of S) p → slice_tokens (slice_of S) (struck (slice_of S) ts) p ≡ plan_tokens N ts p
  -- it is one of the slices "accepted for the same Q in which no left-out transition changes a kept place"
  pub accepted : accepts S
  pub changers : KeepsChangers N (slice_of S)
  -- and "is contained in every" one
  pub smallest : (other : List ℕ) → accepts other → KeepsChangers N (slice_of other) → Contains (slice_of other) (slice_of S)

-- so at a call of the branching cut, by its answer `a` and its buffer afterwards, `exit`: the file written is `take a.length exit`
pub record WritesExact (accepts : List ℕ → Type 0) (N : Net) (a : CutAnswer) (exit : List ℕ) : Type 0 where
  pub exact : a.refusal ≡ 0 → SmallestExact accepts N (take a.length exit)
  pub own_places : a.refusal ≡ 0 → a.places ≡ (slice_of (take a.length exit)).net.places
  pub own_transitions : a.refusal ≡ 0 → a.transitions ≡ (slice_of (take a.length exit)).net.transitions

-- what people conclude who "read all places of a branching slice": S is the file, `a` the answer
pub record ReadInFull (accepts : List ℕ → Type 0) (N : Net) (a : CutAnswer) (S : List ℕ) : Type 1 where
  -- of every property of the tokens on all its places, the verdict on the slice is the verdict on the plan
  pub same_verdict : (F : List ℕ → Type 0) → SameVerdict N (slice_of S) (slice_of S).place_origins F
  -- no firing of a transition that is left out shows on its places
  pub undisturbed : Undisturbed N (slice_of S)
  -- an accepted slice of which that is true and that has no more places and transitions, together, than the answer counts has exactly those of S
  pub same_kept : (other : List ℕ) → accepts other → Undisturbed N (slice_of other)
      → (slice_of other).net.places + (slice_of other).net.transitions ≤ a.places + a.transitions → SameKept (slice_of other) (slice_of S)
