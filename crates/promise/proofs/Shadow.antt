-- The shadow fires in every accepted slice (document 02, A5).
use Prim.Native.Nat.{ℕ, ◌+◌, ◌<◌}
use mathlib.Core.List.{List, [], ◌++◌}
use mathlib.Core.Path.{◌≡◌, sym, ap, subst, subst⁻¹, ◌∙◌}
use native.Mathlib.Omega.{arith}
use lib.ListN.{length, take, get_or, get_or-append}
use lib.Seq.{take-append_seam}
use lib.Dec.{T}
use Rattle.net.specs.Numbers.{among}
use Rattle.net.specs.Net.{Net, Marking, Answer, fired, short, full, replay_from, replay, tokens, Fires, after, StuckAt}
use Rattle.net.specs.Slice.{project, own_place}
use Rattle.net.specs.Guarantee.{PlanFires, plan_tokens, SliceFires, slice_tokens, struck, Guarantee}
use Rattle.net.proofs.Replay.{Meaning, replay-means}
use Rattle.file_words.specs.Word.{Bytes}
use Rattle.file.specs.Layout.{net_of, slice_of}
use Rattle.file.specs.Refusal.{file_refusal}
use Rattle.file_header.specs.declared.Due.TheVariants as due
use Rattle.file_words.proofs.Laws.{or_else_0}
use Rattle.file.proofs.Criterion.{passed}
use Rattle.promise.specs.Calls.{Accepts}
use Rattle.promise.specs.Firing.{list_refusal}
use Rattle.promise.specs.Shadow.{fired_part, shadow_of, lent_refusal, shadow_refusal, shadow_answer, shadow_marking, shadow_output, FollowedIn}
use Rattle.net.proofs.Markings.{length-tokens, get_d_tokens}
use Rattle.promise.proofs.Replays.{list_known}
use Rattle.promise.proofs.Demands.{check_passes, judges, demand_3}

-- ---- the part that a replay fires

-- the list fires up to there, and the marking is the one after it
pub record FiredPart (N : Net) (ts : List ℕ) (m : Marking) : Type 0 where
  pub fires : PlanFires N ts
  pub ends : (p : ℕ) → m p ≡ plan_tokens N ts p

module _ (N : Net) (list : List ℕ) (m : Marking) where
  stuck-part : (i k : ℕ) → i ≡ 0 + k → StuckAt N N.marking list k m → FiredPart N (take i list) m
  unfolding PlanFires plan_tokens
  stuck-part i k e s =
      let same : k ≡ i = omega (arith, e) in
      subst (λ (j : ℕ). FiredPart N (take j list) m) same (record { fires = s.before; ends = λ p. ap (λ (M : Marking). M p) s.ended })

  part_of : (a : Answer) → Meaning N 0 N.marking list a m → FiredPart N (fired_part a list) m
  unfolding PlanFires plan_tokens
  part_of fired (f, e) = record { fires = f; ends = λ p. ap (λ (M : Marking). M p) e }
  part_of (short i p n) (k, e, s, w) = stuck-part i k e s
  part_of (full i p n) (k, e, s, w) = stuck-part i k e s

pub fired_part_lem : (N : Net) (list : List ℕ) → list_refusal N.transitions list ≡ 0 → FiredPart N (fired_part (replay N list).answer list) (replay N list).marking
unfolding replay
fired_part_lem N list e =
    let r = replay_from N 0 N.marking list in
    part_of N list r.marking r.answer (replay-means N 0 N.marking list (list_known N.transitions list e))

-- ---- its projection in a slice with the guarantee

module _ (plan slice list : List ℕ) (passes : list_refusal (net_of plan).transitions list ≡ 0) (Q : List ℕ) (g : Guarantee (net_of plan) (slice_of slice) Q) where
  abbrev done : List ℕ
  done = fired_part (replay (net_of plan) list).answer list

  shadow_fires : Fires (slice_of slice).net (slice_of slice).net.marking (shadow_of (net_of plan) (slice_of slice) list)
  unfolding shadow_of project SliceFires struck
  shadow_fires = (g.shadow_fires done (fired_part_lem (net_of plan) list passes).fires).1

  shadow_ends : (q : ℕ) → T (among q Q)
      → after (slice_of slice).net (slice_of slice).net.marking (shadow_of (net_of plan) (slice_of slice) list) (own_place (slice_of slice) q) ≡ (replay (net_of plan) list).marking q
  unfolding shadow_of project slice_tokens struck
  shadow_ends q h =
      let part = fired_part_lem (net_of plan) list passes in
      g.shadow_tokens done part.fires q h ∙ sym (part.ends q)

-- ---- what is written

-- an entry of a marking that stands first
pub written_entry : (N : Net) (M : Marking) (rest : List ℕ) (q : ℕ) → q < N.places → get_or (tokens N M ++ rest) q 0 ≡ M q
written_entry N M rest q l = get_or-append (tokens N M) rest 0 q (omega (arith, length-tokens N M, l)) ∙ get_d_tokens N M q l

module _ (plan slice list marking output : List ℕ) (bytes : Bytes plan) (e : shadow_refusal plan slice list (length marking) (length output) ≡ 0) where
  list_passes : list_refusal (net_of plan).transitions list ≡ 0
  unfolding shadow_refusal lent_refusal
  list_passes = (or_else_0 (list_refusal (net_of plan).transitions list) _ (or_else_0 (file_refusal due.Slice slice) _ (or_else_0 (file_refusal due.Plan plan) _ e).1).1).0

  shadow : take (shadow_answer plan slice list (length marking) (length output)).count (shadow_output plan slice list marking output) ≡ shadow_of (net_of plan) (slice_of slice) list
  unfolding shadow_answer shadow_output
  shadow = rw e (take-append_seam (shadow_of (net_of plan) (slice_of slice) list) _)

  entry : (q : ℕ) → q < (net_of plan).places → get_or (shadow_marking plan slice list marking output) q 0 ≡ (replay (net_of plan) list).marking q
  unfolding shadow_marking
  entry q l = rw e (written_entry (net_of plan) (replay (net_of plan) list).marking _ q l)

  in_plan : (Q : List ℕ) → Accepts plan slice Q → (q : ℕ) → T (among q Q) → q < (net_of plan).places
  in_plan Q a q h = (passed (net_of plan).places Q (check_passes plan slice Q ((judges plan slice Q).accepts.0 a).0).1).known q h

  holds_of : (Q : List ℕ) → Accepts plan slice Q → Guarantee (net_of plan) (slice_of slice) Q
  holds_of Q a = (demand_3 plan slice Q [] bytes).guarantee a

  there : (Q : List ℕ) → Accepts plan slice Q → Fires (slice_of slice).net (slice_of slice).net.marking (shadow_of (net_of plan) (slice_of slice) list)
  there Q a = shadow_fires plan slice list list_passes Q (holds_of Q a)

  pub followed_in : FollowedIn plan slice (take (shadow_answer plan slice list (length marking) (length output)).count (shadow_output plan slice list marking output))
      (shadow_marking plan slice list marking output)
  followed_in = subst⁻¹ (λ (l : List ℕ). FollowedIn plan slice l (shadow_marking plan slice list marking output)) shadow (record {
    fires = search there;
    tokens = λ Q a q h. cc (shadow_ends plan slice list list_passes Q (holds_of Q a) q h ∙ sym (entry q (in_plan Q a q h)));
  })
