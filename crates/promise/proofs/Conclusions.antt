-- What people conclude, from the fields of `Demand3`, `WritesSmallest`, `Judges`, `Published`, `Replays` and `EmptyCriterion`.
use Prim.Native.Nat.{ℕ, zero, suc, ◌+◌, ◌≤◌}
use mathlib.Core.List.{List, [], ◌∷◌, ◌++◌}
use mathlib.Core.Bool.{true}
use mathlib.Core.Path.{◌≡◌, refl, sym, ap, subst⁻¹, ◌∙◌}
use mathlib.Core.Logic.{◌↔◌}
use native.Mathlib.Omega.{arith}
use lib.ListN.{length, drop}
use lib.Dec.{T}
use borrow.Author.Tests.{le-ltb}
use Rattle.net.specs.Net.{Answer, fired, short, full, replay, Uncapped}
use Rattle.net.specs.Slice.{Slice, HasPlace, HasTransition, WellFormed, Accepted}
use Rattle.net.specs.Checker.{Verdict, accepted, broken, rules, verdict}
use Rattle.net.specs.Guarantee.{Contains}
use Rattle.net.specs.Rakow.{Set, GenerateSlice, GenerateSafetySlice}
use Rattle.net.specs.Conclusions.{SameVerdict, StuckForGood, SameKept, Unbroken}
use Rattle.net.proofs.Conclusions.{same_verdict, short_for_good, full_for_good, same_kept, unbroken-accepted, broken_first}
use Rattle.file_words.specs.Word.{Bytes}
use Rattle.file_header.specs.Layout.{header_of}
use Rattle.file.specs.Layout.{net_of, slice_of}
use Rattle.file.specs.Refusal.{file_refusal}
use Rattle.file_header.specs.declared.Due.TheVariants as due
use Rattle.promise.specs.Calls.{safety_answer, safety_buffer, branching_answer, check_refusal, told, Checked, checked, checked_bytes, Accepts}
use Rattle.promise.specs.Firing.{replay_refusal, ReplayAnswer, replay_told, replay_answer}
use Rattle.promise.specs.Shadow.{fired_part, shadow_of, lent_refusal, shadow_refusal, shadow_answer}
use Rattle.promise.specs.Conclusions.{Tells, AsListed, CutForNothing}
use Rattle.promise.specs.Promise.{our_cut, our_branching, Wrote, Keeps, empty_slice, EmptyCriterion}
use Rattle.promise.proofs.Empty.{empty_criterion}
use Rattle.file.proofs.Criterion.{passed}
use Rattle.promise.proofs.Replays.{differ, answered, replays}
use Rattle.promise.proofs.Demands.{slice_well_formed, check_passes, checked-told, judges, published, demand_3, writes_smallest, not-turned_back, our_cut_lem, branching-not_turned_back, our_branching_lem}

-- the planner's verdict
pub planner : (plan slice Q : List ℕ) (F : List ℕ → Type 0) → Bytes plan → Accepts plan slice Q → SameVerdict (net_of plan) (slice_of slice) Q F
planner plan slice Q F b a = same_verdict (net_of plan) (slice_of slice) Q ((demand_3 plan slice Q [] b).guarantee a) F

-- accepted exactly when the rules hold
exactly : (plan slice Q : List ℕ) → Accepts plan slice Q ↔ (check_refusal plan slice Q ≡ 0) × Accepted (net_of plan) (slice_of slice) Q
exactly plan slice Q = (judges plan slice Q).accepts

-- a slice that is accepted was read
well_formed : (plan slice Q : List ℕ) → Accepts plan slice Q → WellFormed (slice_of slice)
well_formed plan slice Q a = ((exactly plan slice Q).0 a).1.subnet.well_formed

-- an accepted slice that is no larger than our cut
pub exactly_ours : (plan slice Q buffer : List ℕ) → Bytes plan → Wrote plan Q buffer → Accepts plan slice Q
    → (slice_of slice).net.places + (slice_of slice).net.transitions ≤ (safety_answer plan Q (length buffer)).places + (safety_answer plan Q (length buffer)).transitions
    → SameKept (slice_of slice) (slice_of (our_cut plan Q buffer))
unfolding our_cut
exactly_ours plan slice Q buffer b w a small =
    let d = writes_smallest plan Q buffer b refl refl in
    same_kept (slice_of slice) (slice_of (our_cut plan Q buffer)) (well_formed plan slice Q a) (well_formed plan (our_cut plan Q buffer) Q (d.accepted w))
    (d.smallest w slice a) (omega (arith, d.own_places w, d.own_transitions w))

-- an answer other than 0 names a rule
names-some : (v : Verdict) → ¬ ((told v).code ≡ 0) → (k : ℕ) × ((told v).code ≡ 100 + k)
names-some accepted n = absurd (n refl)
names-some (broken k m) n = (k, refl)

module _ (plan slice Q : List ℕ) (e : check_refusal plan slice Q ≡ 0) where
  -- the rules as statements, and one by one
  rules-unbroken : Accepted (net_of plan) (slice_of slice) Q ↔ Unbroken (rules (net_of plan) (slice_of slice) Q)
  rules-unbroken =
      let p = check_passes plan slice Q e in
      unbroken-accepted (net_of plan) (slice_of slice) Q (slice_well_formed slice p.0) (passed (net_of plan).places Q p.1).known

  told-some : (c : Checked) → c ≡ told (verdict (net_of plan) (slice_of slice) Q) → ¬ (c.code ≡ 0) → (k : ℕ) × (c.code ≡ 100 + k)
  told-some c d n = subst⁻¹ (λ (x : Checked). ¬ (x.code ≡ 0) → (k : ℕ) × (x.code ≡ 100 + k)) d (names-some (verdict (net_of plan) (slice_of slice) Q)) n

  pub tells : Tells plan slice Q
  tells = record {
    accepted = (λ a. rules-unbroken.0 ((exactly plan slice Q).0 a).1, λ h. (exactly plan slice Q).1 (e, rules-unbroken.1 h));
    told = λ n. told-some (checked plan slice Q) (checked-told plan slice Q e) n;
    first = λ k z. broken_first (rules (net_of plan) (slice_of slice) Q) k (checked plan slice Q).number ((judges plan slice Q).broken k z);
  }

-- a stuck replay
module _ (file list : List ℕ) (room : ℕ) (e : replay_refusal file list room ≡ 0) where
  by_answer : (a : Answer) → (replay (net_of file) list).answer ≡ a → (replay_told a).stuck ≡ true → StuckForGood (net_of file) list (replay_told a).index
  by_answer fired same z = differ z
  by_answer (short i p n) same z =
      let s = (replays file list room e).sticks i p n (answered file list room e ∙ ap replay_told same) in
      short_for_good (net_of file) list i (replay (net_of file) list).marking s.0 p n s.1
  by_answer (full i p n) same z =
      let s = (replays file list room e).fills i p n (answered file list room e ∙ ap replay_told same) in
      full_for_good (net_of file) list i (replay (net_of file) list).marking s.0 p n s.1

  pub stuck_for_good : (replay_answer file list room).stuck ≡ true → StuckForGood (net_of file) list (replay_answer file list room).index
  stuck_for_good =
      subst⁻¹ (λ (c : ReplayAnswer). c.stuck ≡ true → StuckForGood (net_of file) list c.index) (answered file list room e)
      (by_answer (replay (net_of file) list).answer refl)

-- Rakow's listings
kept-place : (S : Slice) (P' T' : Set) → Keeps S P' T' → (p : ℕ) → HasPlace S p ↔ T (P' p)
kept-place S P' T' k = k.places

kept-transition : (S : Slice) (P' T' : Set) → Keeps S P' T' → (t : ℕ) → HasTransition S t ↔ T (T' t)
kept-transition S P' T' k = k.transitions

as_listed : (S : Slice) (Run : Set → Set → Type 0) → ((P' T' : Set) → Run P' T' → Keeps S P' T') → (P' : Set) × (T' : Set) × Run P' T' → AsListed S Run
as_listed S Run keeps (P₀, T₀, run₀) =
    let place : (P' T' : Set) → Run P' T' → (p : ℕ) → HasPlace S p ↔ T (P' p) = λ P' T' run. kept-place S P' T' (keeps P' T' run) in
    let transition : (P' T' : Set) → Run P' T' → (t : ℕ) → HasTransition S t ↔ T (T' t) = λ P' T' run. kept-transition S P' T' (keeps P' T' run) in
    record {
      places_every = λ p. (λ h P' T' run. (place P' T' run p).0 h, λ every. (place P₀ T₀ run₀ p).1 (every P₀ T₀ run₀));
      places_some = λ p. (λ h. (P₀, T₀, run₀, (place P₀ T₀ run₀ p).0 h), λ (P', T', run, h). (place P' T' run p).1 h);
      transitions_every = λ t. (λ h P' T' run. (transition P' T' run t).0 h, λ every. (transition P₀ T₀ run₀ t).1 (every P₀ T₀ run₀));
      transitions_some = λ t. (λ h. (P₀, T₀, run₀, (transition P₀ T₀ run₀ t).0 h), λ (P', T', run, h). (transition P' T' run t).1 h);
    }

pub safety_listed : (plan Q buffer : List ℕ) → Bytes plan → Uncapped (net_of plan) → Wrote plan Q buffer
    → AsListed (slice_of (our_cut plan Q buffer)) (GenerateSafetySlice (net_of plan) Q)
safety_listed plan Q buffer b none w =
    let p = published plan Q b (not-turned_back plan Q buffer w) none in
    subst⁻¹ (λ (file : List ℕ). AsListed (slice_of file) (GenerateSafetySlice (net_of plan) Q)) (our_cut_lem plan Q buffer w)
    (as_listed _ (GenerateSafetySlice (net_of plan) Q) p.safety_slice p.safety_run)

pub branching_listed : (plan Q buffer : List ℕ) → Bytes plan → Uncapped (net_of plan) → (branching_answer plan Q (length buffer)).refusal ≡ 0
    → AsListed (slice_of (our_branching plan Q buffer)) (GenerateSlice (net_of plan) Q)
branching_listed plan Q buffer b none w =
    let p = published plan Q b (branching-not_turned_back plan Q buffer w) none in
    subst⁻¹ (λ (file : List ℕ). AsListed (slice_of file) (GenerateSlice (net_of plan) Q)) (our_branching_lem plan Q buffer w)
    (as_listed _ (GenerateSlice (net_of plan) Q) p.ctl_slice p.ctl_run)

-- both cuts for no place into 16 bytes
past_end : (l : List ℕ) (n : ℕ) → length l ≤ n → drop n l ≡ []
past_end [] zero h = refl
past_end [] (suc n) h = refl
past_end (x ∷ l) zero h = absurd (omega arith)
past_end (x ∷ l) (suc n) h = past_end l n (omega arith)

module _ (plan buffer : List ℕ) (b : Bytes plan) (read : file_refusal due.Plan plan ≡ 0) (sixteen : length buffer ≡ 16) where
  abbrev E : EmptyCriterion plan
  E = empty_criterion plan b read

  abbrev empty : List ℕ
  empty = empty_slice (header_of plan).edition

  wrote : safety_buffer plan [] buffer ≡ empty
  unfolding empty_slice
  wrote = E.safety_buffer_row buffer (omega (arith, sixteen)) ∙ ap (λ (l : List ℕ). empty ++ l) (past_end buffer 16 (omega arith))

  slice_read : file_refusal due.Slice empty ≡ 0
  slice_read = (check_passes plan empty [] ((exactly plan empty []).0 E.accepted).0).0

  no_shadow : (list : List ℕ) → shadow_of (net_of plan) (slice_of empty) list ≡ []
  unfolding shadow_of
  no_shadow list = E.shadow (fired_part (replay (net_of plan) list).answer list)

  pub cut_for_nothing : CutForNothing plan buffer
  unfolding shadow_answer shadow_refusal lent_refusal
  cut_for_nothing = record {
    same_answer = E.branching_answer_row (length buffer) (omega (arith, sixteen)) ∙ sym (E.safety_answer_row (length buffer) (omega (arith, sixteen)));
    same_bytes = E.branching_buffer_row buffer (omega (arith, sixteen)) ∙ sym (E.safety_buffer_row buffer (omega (arith, sixteen)));
    accepted = ap (λ (file : List ℕ). checked_bytes plan file []) wrote ∙ E.accepted_bytes;
    smallest = λ other a. subst⁻¹ (λ (file : List ℕ). Contains (slice_of other) (slice_of file)) wrote (E.smallest other a);
    shadow = λ list room ok enough. ap (λ (file : List ℕ). shadow_answer plan file list room 0) wrote ∙ rw (read, slice_read, ok, le-ltb room (net_of plan).places enough, no_shadow list);
  }
