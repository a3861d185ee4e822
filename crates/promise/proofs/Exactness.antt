-- The branching cut's file is exact on all its places and the smallest of its class; what people conclude from that.
use Prim.Native.Nat.{ℕ, ◌<◌, ◌+◌, ◌≤◌}
use mathlib.Core.List.{List, []}
use mathlib.Core.Path.{◌≡◌, sym, ap, subst⁻¹, ◌∙◌}
use mathlib.Core.Logic.{◌↔◌}
use native.Mathlib.Omega.{arith}
use lib.ListN.{length, take}
use lib.Dec.{T}
use Rattle.net.specs.Numbers.{among}
use Rattle.net.specs.Net.{Net, WithinCaps}
use Rattle.net.specs.Cut.{branching}
use Rattle.net.specs.Slice.{Slice, Accepted}
use Rattle.net.specs.Guarantee.{Guarantee, Contains}
use Rattle.net.specs.Exactness.{KeepsChangers, Undisturbed, branching_cut}
use Rattle.net.specs.Conclusions.{SameKept}
use Rattle.net.proofs.Theorem.{branching-accepted}
use Rattle.net.proofs.Exactness.{undisturbed, keeps_changers, exact, contains_branching, branching-changers}
use Rattle.net.proofs.Conclusions.{same_verdict, same_kept}
use Rattle.file_words.specs.Word.{Bytes}
use Rattle.file.specs.Layout.{net_of, slice_of}
use Rattle.file.specs.Refusal.{file_refusal}
use Rattle.file.specs.Criterion.{criterion_refusal}
use Rattle.file_header.specs.declared.Due.TheVariants as due
use Rattle.file_words.proofs.Laws.{or_else_0}
use Rattle.file.proofs.Caps.{marking_within}
use Rattle.promise.specs.Calls.{CutAnswer, cut_of, branching_file, cut_refusal, branching_answer, branching_buffer, Accepts}
use Rattle.promise.specs.Promise.{our_branching}
use Rattle.promise.specs.Exactness.{SmallestExact, WritesExact, ReadInFull}
use Rattle.promise.proofs.Cuts.{in_plan}
use Rattle.promise.proofs.Demands.{judges, read_back, branching-cut_accepted, demand_3_by, branching-none, branching-not_turned_back, our_branching_lem}

-- an accepted slice keeps the rules
by_rules : (plan slice Q : List ℕ) → Accepts plan slice Q → Accepted (net_of plan) (slice_of slice) Q
by_rules plan slice Q a = ((judges plan slice Q).accepts.0 a).1

-- the branching cut of a plan and a criterion that are not refused
module _ (plan Q : List ℕ) (bytes : Bytes plan) (e : cut_refusal plan Q ≡ 0) where
  within : WithinCaps (net_of plan) (net_of plan).marking
  unfolding cut_refusal
  within = marking_within due.Plan plan (or_else_0 (file_refusal due.Plan plan) (criterion_refusal (net_of plan).places Q) e).0

  known : (q : ℕ) → T (among q Q) → q < (net_of plan).places
  known = in_plan plan Q bytes e

  same : slice_of (branching_file plan Q) ≡ cut_of branching plan Q
  same = (read_back plan Q bytes e).branching_same

  changers : KeepsChangers (net_of plan) (cut_of branching plan Q)
  unfolding cut_of
  changers = branching-changers (net_of plan) Q known

  on_all_places : Guarantee (net_of plan) (cut_of branching plan Q) (cut_of branching plan Q).place_origins
  unfolding cut_of
  on_all_places = exact (net_of plan) (branching_cut (net_of plan) Q) Q (branching-accepted (net_of plan) Q known) changers within

  within_others : (other : List ℕ) → Accepts plan other Q → KeepsChangers (net_of plan) (slice_of other) → Contains (slice_of other) (cut_of branching plan Q)
  unfolding cut_of
  within_others other a keeps = contains_branching (net_of plan) (slice_of other) Q (by_rules plan other Q a) keeps

  file_contained : (other : List ℕ) → Accepts plan other Q → KeepsChangers (net_of plan) (slice_of other) → Contains (slice_of other) (slice_of (branching_file plan Q))
  file_contained other a keeps = subst⁻¹ (λ (C : Slice). Contains (slice_of other) C) same (within_others other a keeps)

  smallest_exact : SmallestExact (λ S. Accepts plan S Q) (net_of plan) (branching_file plan Q)
  smallest_exact =
      let g = subst⁻¹ (λ (S : Slice). Guarantee (net_of plan) S S.place_origins) same on_all_places in
      record {
        shadow_fires = search g.shadow_fires;
        shadow_tokens = search g.shadow_tokens;
        accepted = branching-cut_accepted plan Q bytes e;
        changers = subst⁻¹ (λ (S : Slice). KeepsChangers (net_of plan) S) same changers;
        smallest = search file_contained;
      }

-- what the call answers and leaves in the buffer
module _ (plan Q buffer : List ℕ) (bytes : Bytes plan) where
  abbrev answer : CutAnswer
  answer = branching_answer plan Q (length buffer)

  file_exact : answer.refusal ≡ 0 → SmallestExact (λ S. Accepts plan S Q) (net_of plan) (our_branching plan Q buffer)
  file_exact w = subst⁻¹ (λ (S : List ℕ). SmallestExact (λ X. Accepts plan X Q) (net_of plan) S) (our_branching_lem plan Q buffer w) (smallest_exact plan Q bytes (branching-not_turned_back plan Q buffer w))

  -- the slice in the buffer is the cut
  our_slice : answer.refusal ≡ 0 → slice_of (our_branching plan Q buffer) ≡ cut_of branching plan Q
  our_slice w = ap slice_of (our_branching_lem plan Q buffer w) ∙ same plan Q bytes (branching-not_turned_back plan Q buffer w)

  our_places : answer.refusal ≡ 0 → answer.places ≡ (cut_of branching plan Q).net.places
  unfolding branching_answer
  our_places w = rw (branching-none plan Q buffer w)

  our_transitions : answer.refusal ≡ 0 → answer.transitions ≡ (cut_of branching plan Q).net.transitions
  unfolding branching_answer
  our_transitions w = rw (branching-none plan Q buffer w)

  at_the_call : WritesExact (λ S. Accepts plan S Q) (net_of plan) answer (branching_buffer plan Q buffer)
  unfolding our_branching
  at_the_call = record {
    exact = file_exact;
    own_places = λ w. our_places w ∙ ap (λ (S : Slice). S.net.places) (sym (our_slice w));
    own_transitions = λ w. our_transitions w ∙ ap (λ (S : Slice). S.net.transitions) (sym (our_slice w));
  }

-- for an answer and a buffer that are what the call's contract says
pub writes_exact : (plan Q buffer : List ℕ) {exit : List ℕ} {a : CutAnswer} → Bytes plan
    → a ≡ branching_answer plan Q (length buffer) → exit ≡ branching_buffer plan Q buffer → WritesExact (λ S. Accepts plan S Q) (net_of plan) a exit
writes_exact plan Q buffer {exit} b e f =
    subst⁻¹ (λ (a : CutAnswer). WritesExact (λ S. Accepts plan S Q) (net_of plan) a exit) e
    (subst⁻¹ (λ (x : List ℕ). WritesExact (λ S. Accepts plan S Q) (net_of plan) (branching_answer plan Q (length buffer)) x) f (at_the_call plan Q buffer b))

-- by another check that accepts the same slices
pub exact_as : (accepts accepts' : List ℕ → Type 0) (N : Net) (a : CutAnswer) (exit : List ℕ) → ((S : List ℕ) → accepts' S ↔ accepts S) → WritesExact accepts N a exit → WritesExact accepts' N a exit
exact_as accepts accepts' N a exit same w = record {
  exact = λ z.
      let x = w.exact z in
      record {
        shadow_fires = x.shadow_fires;
        shadow_tokens = x.shadow_tokens;
        accepted = (same (take a.length exit)).1 x.accepted;
        changers = x.changers;
        smallest = λ other ok keeps. x.smallest other ((same other).0 ok) keeps;
      };
  own_places = w.own_places;
  own_transitions = w.own_transitions;
}

-- what follows from `SmallestExact`, and from nothing else about a cut
module _ (accepts : List ℕ → Type 0) (plan Q S : List ℕ) (bytes : Bytes plan) (alike : (F : List ℕ) → accepts F ↔ Accepts plan F Q) (x : SmallestExact accepts (net_of plan) S) where
  -- all kept places as the criterion
  in_full : Guarantee (net_of plan) (slice_of S) (slice_of S).place_origins
  in_full =
      let g = (demand_3_by accepts plan S Q [] bytes alike).guarantee x.accepted in
      record { shadow_fires = x.shadow_fires; shadow_tokens = λ ts f p kept. x.shadow_tokens ts f p kept; fires_alike = g.fires_alike; tokens_alike = g.tokens_alike }

  left-out_unseen : Undisturbed (net_of plan) (slice_of S)
  left-out_unseen = undisturbed (net_of plan) (slice_of S) (by_rules plan S Q ((alike S).0 x.accepted)).subnet x.changers

  exactly_these : (other : List ℕ) → accepts other → Undisturbed (net_of plan) (slice_of other)
      → (slice_of other).net.places + (slice_of other).net.transitions ≤ (slice_of S).net.places + (slice_of S).net.transitions → SameKept (slice_of other) (slice_of S)
  exactly_these other a u small =
      same_kept (slice_of other) (slice_of S) (by_rules plan other Q ((alike other).0 a)).subnet.well_formed (by_rules plan S Q ((alike S).0 x.accepted)).subnet.well_formed
      (x.smallest other a (keeps_changers (net_of plan) (slice_of other) u)) small

-- what a call of the branching cut wrote, by either check
pub read_in_full_by : (accepts : List ℕ → Type 0) (plan Q : List ℕ) (a : CutAnswer) (exit : List ℕ) → Bytes plan → ((F : List ℕ) → accepts F ↔ Accepts plan F Q)
    → WritesExact accepts (net_of plan) a exit → a.refusal ≡ 0 → ReadInFull accepts (net_of plan) a (take a.length exit)
read_in_full_by accepts plan Q a exit b alike d w =
    let S = take a.length exit in
    record {
      same_verdict = same_verdict (net_of plan) (slice_of S) (slice_of S).place_origins (in_full accepts plan Q S b alike (d.exact w));
      undisturbed = left-out_unseen accepts plan Q S b alike (d.exact w);
      same_kept = λ other ok u small. exactly_these accepts plan Q S b alike (d.exact w) other ok u (omega (arith, d.own_places w, d.own_transitions w));
    }

pub read_in_full : (plan Q buffer : List ℕ) → Bytes plan → (branching_answer plan Q (length buffer)).refusal ≡ 0
    → ReadInFull (λ S. Accepts plan S Q) (net_of plan) (branching_answer plan Q (length buffer)) (our_branching plan Q buffer)
unfolding our_branching
read_in_full plan Q buffer b w =
    read_in_full_by (λ S. Accepts plan S Q) plan Q (branching_answer plan Q (length buffer)) (branching_buffer plan Q buffer) b (λ S. (λ a. a, λ a. a)) (at_the_call plan Q buffer b) w
