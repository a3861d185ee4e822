-- What people get who hand the answer of one call to the next. Each line follows from the fields of `Promise`, or of a record that a call ensures, and needs them in full.
use Rattle.std.specs.Prelude.{ℕ, suc, ◌+◌, ◌%◌, ◌≤◌, ◌<◌, Bool, true, false, List, [], ◌++◌, ◌≡◌, ◌↔◌, length, take, drop, get_or, T}
use Rattle.net.specs.Numbers.{among}
use Rattle.net.specs.Net.{Marking, Net, fired, Leads, tokens, has_caps, Uncapped}
use Rattle.net.specs.Rakow.{Set, nothing, adding, less, Inner, changing, raising, changed_from, changers_of}
use Rattle.net.specs.Slice.{project, own, own_place, arcs_of}
use Rattle.net.specs.Guarantee.{PlanFires, plan_tokens, Guarantee}
use Rattle.net.specs.Run.{fired_at}
use Rattle.file_words.specs.Word.{le64, Bytes}
use Rattle.file_arcs.specs.Layout.{arcs_from}
use Rattle.file_header.specs.Layout.{header_of}
use Rattle.file.specs.Layout.{net_of, slice_of}
use Rattle.file.specs.Refusal.{file_refusal}
use Rattle.file.specs.Criterion.{criterion_of}
use Rattle.file_header.specs.declared.Due.TheVariants as due
use Rattle.promise.specs.Calls.{CutAnswer, cut_refusal, safety_file, branching_file, safety_answer, checked_bytes, Accepts}
use Rattle.promise.specs.Firing.{list_refusal, replay_refusal, replay_told, replay_answer, replay_marking, named, arc_run, arc_start}
use Rattle.promise.specs.Shadow.{FollowedIn}
use Rattle.promise.specs.Together.{standing, TogetherAnswer, TakesLargest}
use Rattle.promise.specs.RunCut.{RunAnswer, run_buffer, Feeds, RunsBack}
use Rattle.promise.specs.Promise.{our_cut, Wrote, WritesSmallest}

-- a replay into the list `lent`: it answers fired exactly if the list leads to some marking, which is the one written
pub record LeadsOn (file list lent : List ℕ) : Type 0 where
  pub fired : (replay_answer file list (length lent) ≡ replay_told fired) ↔ ((M : Marking) × Leads (net_of file) (net_of file).marking list M)
  pub written : (M : Marking) → Leads (net_of file) (net_of file).marking list M → replay_marking file list lent ≡ tokens (net_of file) M ++ drop (net_of file).places lent

-- what a cut wrote is accepted, and no slice that is accepted has fewer places or transitions than the cut's answer counts
pub record NoneSmaller (accepts : List ℕ → Type 0) (a : CutAnswer) (file : List ℕ) : Type 0 where
  pub own : accepts file
  pub places : (other : List ℕ) → accepts other → a.places ≤ (slice_of other).net.places
  pub transitions : (other : List ℕ) → accepts other → a.transitions ≤ (slice_of other).net.transitions

-- a list of a slice's own numbers, replayed there into `lent`: all fired, with the tokens of M on each place of Q
pub record EqualOn (slice list lent Q : List ℕ) (M : Marking) : Type 0 where
  pub fired : replay_answer slice list (length lent) ≡ replay_told fired
  pub tokens : (q : ℕ) → T (among q Q) → get_or (replay_marking slice list lent) (own_place (slice_of slice) q) 0 ≡ M q

-- the same with at least those tokens
pub record EnoughOn (slice list lent Q : List ℕ) (M : Marking) : Type 0 where
  pub fired : replay_answer slice list (length lent) ≡ replay_told fired
  pub tokens : (q : ℕ) → T (among q Q) → M q ≤ get_or (replay_marking slice list lent) (own_place (slice_of slice) q) 0

-- a run of a listing's outer loop that never ends: each turn goes through a place that is not done
pub record Endless (N : Net) (W : ℕ → Set) (P' T' done : Set) : Type 0 where
  pub places : ℕ → Set
  pub transitions : ℕ → Set
  pub gone : ℕ → Set
  pub starts : (places 0 ≡ P') × (transitions 0 ≡ T') × (gone 0 ≡ done)
  pub turn : (i : ℕ)
      → (p : ℕ) × T (less (places i) (gone i) p) × Inner N (W p) (places i) (transitions i) (places (suc i)) (transitions (suc i)) × (gone (suc i) ≡ adding (gone i) p)

pub record Uses : Type 0 where
  pub leads_on : (file list lent : List ℕ) → replay_refusal file list (length lent) ≡ 0 → LeadsOn file list lent
  -- a cut, then the check of what it wrote, or of any other slice
  pub counted : (plan Q : List ℕ) (a : CutAnswer) (exit : List ℕ) → WritesSmallest (λ S. Accepts plan S Q) a exit → a.refusal ≡ 0 → NoneSmaller (λ S. Accepts plan S Q) a (take a.length exit)
  -- from the two C calls alone: Q as bytes
  pub two_calls : (plan q buffer : List ℕ) → Bytes plan → length q % 2 ≡ 0 → Wrote plan (criterion_of q) buffer
      → NoneSmaller (λ S. checked_bytes plan S q ≡ 0) (safety_answer plan (criterion_of q) (length buffer)) (our_cut plan (criterion_of q) buffer)
  -- the check of a slice, a replay of the plan that is answered fired, then a replay of the projected list on the slice
  pub projected : (plan slice Q list lent marking : List ℕ) → Guarantee (net_of plan) (slice_of slice) Q → Accepts plan slice Q → replay_answer plan list (length marking) ≡ replay_told fired
      → (net_of slice).places ≤ length lent → EqualOn slice (project (slice_of slice) list) lent Q (standing (replay_marking plan list marking))
  -- a run and its shadow, stuck or not, then a replay of the shadow on the slice
  pub followed : (plan slice shadow marking lent Q : List ℕ) → FollowedIn plan slice shadow marking → Accepts plan slice Q → length shadow ≤ 65535
      → (net_of slice).places ≤ length lent → EqualOn slice shadow lent Q (standing marking)
  -- the run cut, then a replay of the chosen firings on the slice that it wrote
  pub fed_on : (plan Q list file positions lent : List ℕ) → Feeds plan Q list file positions → length list ≤ 65535
      → (net_of file).places ≤ length lent → EnoughOn file (own (slice_of file).transition_origins (fired_at list positions)) lent Q (plan_tokens (net_of plan) list)
  -- 14, and a replay of the same list on the plan: index, place and shortage are the same
  pub stuck_alike : (plan Q list : List ℕ) (a : RunAnswer) (exit positions : List ℕ) (room : ℕ) → RunsBack plan Q list a exit positions → a.refusal ≡ 14 → replay_refusal plan list room ≡ 0
      → replay_answer plan list room ≡ record { refused = false; refusal = 0; stuck = true; full = false; index = a.index; place = a.place; amount = a.amount }
  -- what is left of a marking, taken from once more: 0
  pub taken_again : (plan : List ℕ) (t : ℕ) (marking : List ℕ) (a b : TogetherAnswer) (exit again : List ℕ) → TakesLargest plan t marking a exit → a.refused ≡ false → a.unlimited ≡ false
      → (net_of plan).places ≤ length marking → TakesLargest plan t (take (length marking) exit) b again → b.refused ≡ false → (b.unlimited ≡ false) × (b.times ≡ 0)
  -- the run cut for no place wrote a slice that the C check accepts for no bytes
  pub nothing_fed : (plan list buffer positions : List ℕ) → Bytes plan → file_refusal due.Plan plan ≡ 0 → has_caps (net_of plan) ≡ false → list_refusal (net_of plan).transitions list ≡ 0
      → PlanFires (net_of plan) list → length buffer ≡ 16 → checked_bytes plan (run_buffer plan [] list buffer (length positions)) [] ≡ 0
  -- neither of Rakow's listings has a run that never ends
  pub no_endless : (plan Q : List ℕ) → Bytes plan → cut_refusal plan Q ≡ 0 → Uncapped (net_of plan)
      → (¬ Endless (net_of plan) (raising (net_of plan)) (changed_from (net_of plan) Q) (changers_of (net_of plan) Q) (λ p. among p Q))
      × (¬ Endless (net_of plan) (changing (net_of plan)) (λ p. among p Q) nothing nothing)
  -- "Edition 1 counts as uncapped": the slices of a plan of edition 1 have no caps
  pub no_caps : (plan Q : List ℕ) → Bytes plan → cut_refusal plan Q ≡ 0 → (header_of plan).edition ≡ 1 → Uncapped (net_of (safety_file plan Q)) × Uncapped (net_of (branching_file plan Q))
  -- a C program that reads so many bytes of the file named from the start told has the transition's arcs
  pub read_at : (plan slice : List ℕ) (of_slice : Bool) (t : ℕ) → file_refusal due.Plan plan ≡ 0 → file_refusal due.Slice slice ≡ 0 → t < (net_of (named of_slice plan slice)).transitions
      → let arcs = arcs_of t (net_of (named of_slice plan slice)).arcs in
      arcs_from (take (length (arc_run plan slice of_slice t)) (drop (arc_start plan slice of_slice t) (named of_slice plan slice))) 0 (length arcs) ≡ arcs
  -- two records of 8 bytes are the same bytes exactly if they are the same word
  pub one_record : (s s' : List ℕ) → Bytes s → Bytes s' → (i j : ℕ) → i + 8 ≤ length s → j + 8 ≤ length s' → (le64 s i ≡ le64 s' j) ↔ (take 8 (drop i s) ≡ take 8 (drop j s'))
