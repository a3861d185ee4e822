-- The answer of `replay_from` and its marking, by the way out that the call took.
use Prim.Native.Nat.{ℕ, zero, suc}
use mathlib.Core.Path.{◌≡◌, refl, sym, ap, ◌∙◌}
use mathlib.Core.List.{List}
use Rattle.file_header.specs.declared.Due.TheVariants.{Either}
use Rattle.file_header.specs.declared.Header.{Header}
use Rattle.promise.specs.Firing.{ReplayAnswer, replay_answer, replay_marking}
use Rattle.promise.specs.Starts.{started_from, from_refusal, replay_unless, left_unless, replay_from_answer, replay_from_marking}
use Rattle.inputs_starts.specs.Startable.{Startable}
use Rattle.inputs_starts.proofs.Calls.{by_start, same_file}
use Rattle.replay.specs.Told.{outcome_numbers}
use Rattle.std.proofs.Common.{Err}
use Rattle.refusals.specs.Numbers.{number}
use Rattle.refusals.specs.declared.Refusal.{Refusal}
use Rattle.refusals.proofs.Numbers.{number_above, number_some}

stops : (e : Refusal) {n : ℕ} (a : ReplayAnswer) → n ≡ number e → outcome_numbers (Err e) ≡ replay_unless n a
stops e a q = let z = number_above e in rw (q, z.1)

stays : (n : ℕ) (exit m : List ℕ) → (n ≡ 0 → ⊥) → m ≡ left_unless n exit m
stays zero exit m z = absurd (z refl)
stays (suc n) exit m z = refl

module _ (s start list : List ℕ) (d : Refusal) (e : from_refusal Either s start ≡ number d) where
  pub from_answer : (room : ℕ) → outcome_numbers (Err d) ≡ replay_from_answer s start list room
  unfolding replay_from_answer
  from_answer room = stops d _ e

  pub from_marking : (m : List ℕ) → m ≡ replay_from_marking s start list m
  unfolding replay_from_marking
  from_marking m = rw e (stays (number d) _ m (number_some d))

module _ (s : List ℕ) (h : Header) (start list : List ℕ) (r : Startable Either s h start) where
  none : from_refusal Either s start ≡ 0
  none = by_start Either s h start r.opened (sym r.passes)

  pub on_answer : (room : ℕ) {a : ReplayAnswer} → a ≡ replay_answer (started_from s h start) list room → a ≡ replay_from_answer s start list room
  unfolding replay_from_answer
  on_answer room e = rw none (e ∙ ap (λ (c : List ℕ). replay_answer c list room) (same_file start r.opened))

  pub on_marking : (m : List ℕ) {m' : List ℕ} → m' ≡ replay_marking (started_from s h start) list m → m' ≡ replay_from_marking s start list m
  unfolding replay_from_marking
  on_marking m e = rw none (e ∙ ap (λ (c : List ℕ). replay_marking c list m) (same_file start r.opened))
