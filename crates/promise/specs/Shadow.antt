-- One call for a run and its shadow (document 02, A5), as a computation over bytes: the plan is replayed, its fired part projected to the slice.
use Rattle.std.specs.Prelude.{ℕ, zero, suc, List, ◌≡◌, length, take, get_or, T, ltb}
use Rattle.net.specs.Numbers.{among}
use Rattle.net.specs.Net.{Net, Answer, fired, short, full, replay, tokens, Fires, after}
use Rattle.net.specs.Slice.{Slice, project, own_place}
use Rattle.file.specs.Layout.{net_of, slice_of}
use Rattle.file_words.specs.Refusal.{refuse, or_else}
use Rattle.file.specs.Refusal.{file_refusal}
use Rattle.file_header.specs.declared.Due.TheVariants as due
use Rattle.promise.specs.Calls.{written, Accepts}
use Rattle.promise.specs.Firing.{list_refusal, ReplayAnswer, replay_or}

-- the fired part of a list: all of it, or, "when stuck, .. the firings before that index"
abbrev pub fired_part : Answer → List ℕ → List ℕ
fired_part fired list = list
fired_part (short i p n) list = take i list
fired_part (full i p n) list = take i list

-- "the plan is replayed and the fired part projected"
unfoldable pub shadow_of : Net → Slice → List ℕ → List ℕ
shadow_of N S list = project S (fired_part (replay N list).answer list)

-- the list; then "13 is met first for the marking, then for the output list, which need only hold the fired part's projection": they have `room` and `space` entries
unfoldable pub lent_refusal : Net → Slice → List ℕ → ℕ → ℕ → ℕ
lent_refusal N S list room space =
    or_else (list_refusal N.transitions list) (refuse (ltb room N.places) 13 (refuse (ltb space (length (shadow_of N S list))) 13 0))

-- "plan, slice, list, marking buffer and output list go in", and are tested in this order
unfoldable pub shadow_refusal : List ℕ → List ℕ → List ℕ → ℕ → ℕ → ℕ
shadow_refusal plan slice list room space =
    or_else (file_refusal due.Plan plan) (or_else (file_refusal due.Slice slice) (lent_refusal (net_of plan) (slice_of slice) list room space))

-- the replay's answer, and how many entries of the output list are written
pub record ShadowAnswer : Type 0 where
  pub run : ReplayAnswer
  pub count : ℕ

-- a refusal in numbers, or the run and the count: "A refusal returns its number with zeros elsewhere"
abbrev pub shadow_or : ℕ → Answer → ℕ → ShadowAnswer
shadow_or zero a n = record { run = replay_or zero a; count = n }
shadow_or (suc k) a n = record { run = replay_or (suc k) a; count = 0 }

-- the answer, the marking having `room` entries and the output list `space`
unfoldable pub shadow_answer : List ℕ → List ℕ → List ℕ → ℕ → ℕ → ShadowAnswer
shadow_answer plan slice list room space =
    shadow_or (shadow_refusal plan slice list room space) (replay (net_of plan) list).answer (length (shadow_of (net_of plan) (slice_of slice) list))

-- the lent marking afterwards, as replay leaves it; refused, also for the output list, it keeps every entry
unfoldable pub shadow_marking : List ℕ → List ℕ → List ℕ → List ℕ → List ℕ → List ℕ
shadow_marking plan slice list marking output =
    written (shadow_refusal plan slice list (length marking) (length output)) (tokens (net_of plan) (replay (net_of plan) list).marking) marking

-- the output list afterwards: "the slice's number for each listed transition among the origins, in order", of the fired part
unfoldable pub shadow_output : List ℕ → List ℕ → List ℕ → List ℕ → List ℕ → List ℕ
shadow_output plan slice list marking output =
    written (shadow_refusal plan slice list (length marking) (length output)) (shadow_of (net_of plan) (slice_of slice) list) output

-- "for an accepted slice the shadow always fires there": a call that is not refused, stuck or not, wrote this shadow and this marking
pub record FollowedIn (plan slice shadow marking : List ℕ) : Type 0 where
  -- for every Q for which the slice is accepted
  pub fires : (Q : List ℕ) → Accepts plan slice Q → Fires (slice_of slice).net (slice_of slice).net.marking shadow
  -- and it ends there with the tokens of that marking, on each place of Q
  pub tokens : (Q : List ℕ) → Accepts plan slice Q → (q : ℕ) → T (among q Q)
      → after (slice_of slice).net (slice_of slice).net.marking shadow (own_place (slice_of slice) q) ≡ get_or marking q 0
