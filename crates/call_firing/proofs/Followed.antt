-- The answer of `shadow`, its marking and its output list, by the way out that the call took; and what they are good for.
use Prim.Native.Nat.{ℕ, zero, suc}
use mathlib.Core.Path.{◌≡◌, refl, sym, ap, subst⁻¹, ◌∙◌}
use mathlib.Core.Bool.{false}
use borrow.Author.Tests.{eqb-true, not-false}
use mathlib.Core.List.{List}
use lib.Dec.{eqb}
use lib.ListN.{length, take}
use Rattle.net.specs.Net.{Answer, replay}
use Rattle.file_words.specs.Word.{Bytes}
use Rattle.file.specs.Layout.{net_from, net_of, slice_from, slice_of}
use Rattle.file.specs.Refusal.{file_refusal}
use Rattle.file.specs.Facts.{Opened}
use Rattle.file_header.specs.declared.Due.TheVariants as due
use Rattle.file_header.specs.declared.Header.{Header}
use Rattle.file_words.proofs.Laws.{or_else_stop}
use Rattle.promise.specs.Shadow.{ShadowAnswer, shadow_of, shadow_or, shadow_refusal, shadow_answer, shadow_marking, shadow_output, FollowedIn}
use Rattle.promise.proofs.Replays.{differ}
use Rattle.promise.proofs.Shadow.{followed_in}
use Rattle.inputs_lists.proofs.Passing.{kept-refused}
use Rattle.shadow.specs.Told.{shadow_numbers, Follows}
use Rattle.shadow.specs.declared.Shadow.{Shadow}
use Rattle.std.proofs.Common.{Result, Err}
use Rattle.refusals.specs.Numbers.{number}
use Rattle.refusals.specs.declared.Refusal.{Refusal}
use Rattle.refusals.proofs.Numbers.{number_above, number_some}

pub slice_kind : {s : List ℕ} {h : Header} → Opened due.Slice s h → h.kind ≡ 1
slice_kind {s} {h} o = eqb-true h.kind 1 (not-false (eqb h.kind 1) o.kind)

-- the three equations of the call
pub record Answered (plan slice list m m' out out' : List ℕ) (r : Result Shadow Refusal) : Type 0 where
  pub answer : shadow_numbers r ≡ shadow_answer plan slice list (length m) (length out)
  pub marking : m' ≡ shadow_marking plan slice list m out
  pub output : out' ≡ shadow_output plan slice list m out

-- "A refusal returns its number with zeros elsewhere"
told-refused : (e : Refusal) {n : ℕ} (a : Answer) (c : ℕ) → n ≡ number e → shadow_numbers (Err e) ≡ shadow_or n a c
told-refused e a c q = let z = number_above e in rw (q, z.1)

module _ (plan slice list m out : List ℕ) {d : Refusal} where
  refused : shadow_refusal plan slice list (length m) (length out) ≡ number d → Answered plan slice list m m out out (Err d)
  unfolding shadow_answer shadow_marking shadow_output
  refused e = record {
    answer = told-refused d _ _ e;
    marking = rw e (kept-refused (number d) _ m refl (number_some d));
    output = rw e (kept-refused (number d) _ out refl (number_some d));
  }

  pub by_plan : file_refusal due.Plan plan ≡ number d → Answered plan slice list m m out out (Err d)
  unfolding shadow_refusal
  by_plan e = refused (rw (e, or_else_stop (number d) _ (number_some d)))

  pub by_slice : {p : Header} → Opened due.Plan plan p → file_refusal due.Slice slice ≡ number d → Answered plan slice list m m out out (Err d)
  unfolding shadow_refusal
  by_slice o e = refused (rw (o.read, e, or_else_stop (number d) _ (number_some d)))

pub both_read : (plan slice : List ℕ) (p s : Header) → Opened due.Plan plan p → Opened due.Slice slice s → {list m m' out out' : List ℕ} {r : Result Shadow Refusal}
    → Follows (net_from plan p) (slice_from slice s) list m m' out out' r → Answered plan slice list m m' out out' r
unfolding shadow_answer shadow_marking shadow_output shadow_refusal
both_read plan slice p s o q f = record {
  answer = rw (o.read, q.read, ← o.same, ← q.same) f.answer;
  marking = rw (o.read, q.read, ← o.same, ← q.same) f.marking;
  output = rw (o.read, q.read, ← o.same, ← q.same) f.output;
}

-- ---- in an accepted slice

none_refused : (n : ℕ) (a : Answer) (c : ℕ) → (shadow_or n a c).run.refused ≡ false → n ≡ 0
none_refused zero a c e = refl
none_refused (suc n) a c e = differ (sym e)

module _ (plan slice list m out : List ℕ) {m' out' : List ℕ} {r : Result Shadow Refusal} (bytes : Bytes plan) (a : Answered plan slice list m m' out out' r) where
  passes : (shadow_numbers r).run.refused ≡ false → shadow_refusal plan slice list (length m) (length out) ≡ 0
  unfolding shadow_answer
  passes e =
      none_refused (shadow_refusal plan slice list (length m) (length out)) (replay (net_of plan) list).answer (length (shadow_of (net_of plan) (slice_of slice) list))
      (sym (ap (λ (x : ShadowAnswer). x.run.refused) a.answer) ∙ e)

  pub followed : (shadow_numbers r).run.refused ≡ false → FollowedIn plan slice (take (shadow_numbers r).count out') m'
  followed e =
      let f = followed_in plan slice list m out bytes (passes e) in
      let count : (shadow_numbers r).count ≡ (shadow_answer plan slice list (length m) (length out)).count = ap (λ (x : ShadowAnswer). x.count) a.answer in
      subst⁻¹ (λ (x : List ℕ). FollowedIn plan slice (take (shadow_numbers r).count out') x) a.marking
      (subst⁻¹ (λ (x : List ℕ). FollowedIn plan slice (take (shadow_numbers r).count x) (shadow_marking plan slice list m out)) a.output
      (subst⁻¹ (λ (x : ℕ). FollowedIn plan slice (take x (shadow_output plan slice list m out)) (shadow_marking plan slice list m out)) count f))

  -- all that the call ensures
  pub ensured : (shadow_numbers r ≡ shadow_answer plan slice list (length m) (length out)) × ((m' ≡ shadow_marking plan slice list m out) × ((out' ≡ shadow_output plan slice list m out)
      × ((shadow_numbers r).run.refused ≡ false → FollowedIn plan slice (take (shadow_numbers r).count out') m')))
  ensured = (a.answer, (a.marking, (a.output, followed)))
