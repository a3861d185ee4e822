-- The answer of a check from a lent marking, by the way out that the call took.
use Prim.Native.Nat.{ℕ, zero, suc, ◌<◌}
use mathlib.Core.Path.{◌≡◌, refl, sym, ap, subst, ◌∙◌}
use mathlib.Core.Bool.{true}
use mathlib.Core.List.{List, []}
use native.Mathlib.Omega.{arith}
use Rattle.net.specs.Net.{Net}
use Rattle.net.specs.Guarantee.{Guarantee}
use Rattle.file_words.specs.Word.{byte_at, Bytes}
use Rattle.file_words.specs.Refusal.{or_else}
use Rattle.file_words.proofs.Laws.{or_else_0}
use Rattle.file.specs.Layout.{net_from, net_of, slice_of}
use Rattle.file.specs.Refusal.{file_refusal}
use Rattle.file.specs.Facts.{Opened}
use Rattle.file_header.specs.declared.Due.TheVariants as due
use Rattle.file_header.specs.declared.Header.{Header}
use Rattle.promise.specs.Calls.{Checked, checked}
use Rattle.promise.specs.Together.{standing}
use Rattle.promise.specs.Starts.{starting_at, start_refusal, started_from, started, from_refusal, check_unless, check_from_refusal, checked_from}
use Rattle.promise.proofs.Started.{started-net}
use Rattle.promise.proofs.Starts.{demand_3_from}
use Rattle.inputs_starts.proofs.Calls.{same_file}

stops : (n : ℕ) (a : Checked) → (n ≡ 0 → ⊥) → record { refused = true; code = n; number = 0 } ≡ check_unless n a
stops zero a z = absurd (z refl)
stops (suc n) a z = refl

-- an answer that says accepted
unless_0 : (n : ℕ) (a : Checked) → (check_unless n a).code ≡ 0 → n ≡ 0
unless_0 zero a z = refl
unless_0 (suc k) a z = absurd (omega arith)

when_accepted : (plan slice start Q : List ℕ) {c : Checked} → Bytes plan → c ≡ checked_from plan slice start Q → c.code ≡ 0 → Guarantee (starting_at (standing start) (net_of plan)) (slice_of slice) Q
unfolding checked_from check_from_refusal from_refusal
when_accepted plan slice start Q {c} b e a =
    let z : (checked_from plan slice start Q).code ≡ 0 = ap (λ (x : Checked). x.code) (sym e) ∙ a in
    let n = unless_0 (or_else (file_refusal due.Plan plan) (or_else (file_refusal due.Slice slice) (start_refusal (net_of plan) start))) (checked (started plan start) slice Q) z in
    let r = or_else_0 (file_refusal due.Plan plan) (or_else (file_refusal due.Slice slice) (start_refusal (net_of plan) start)) n in
    let o = (or_else_0 (file_refusal due.Slice slice) (start_refusal (net_of plan) start) r.1).1 in
    subst (λ (N : Net). Guarantee N (slice_of slice) Q) (started-net due.Plan plan b r.0 start o) ((demand_3_from plan start slice Q [] b (rw (r.0, o))).guarantee z)

module _ (plan slice start Q : List ℕ) where
  pub plan_stops : (n : ℕ) → (file_refusal due.Plan plan ≡ n) × (n ≡ 0 → ⊥) → record { refused = true; code = n; number = 0 } ≡ checked_from plan slice start Q
  unfolding checked_from check_from_refusal
  plan_stops n t = rw t.0 (first n t.1)
    where
      first : (m : ℕ) → (m ≡ 0 → ⊥) → record { refused = true; code = m; number = 0 } ≡ check_unless (or_else m (or_else (file_refusal due.Slice slice) (start_refusal (net_of plan) start))) (checked (started plan start) slice Q)
      first zero z = absurd (z refl)
      first (suc m) z = refl

  module _ (p : Header) (o : Opened due.Plan plan p) where
    pub slice_stops : (n : ℕ) → (file_refusal due.Slice slice ≡ n) × (n ≡ 0 → ⊥) → record { refused = true; code = n; number = 0 } ≡ checked_from plan slice start Q
    unfolding checked_from check_from_refusal
    slice_stops n t = rw (o.read, t.0) (second n t.1)
      where
        second : (m : ℕ) → (m ≡ 0 → ⊥) → record { refused = true; code = m; number = 0 } ≡ check_unless (or_else 0 (or_else m (start_refusal (net_of plan) start))) (checked (started plan start) slice Q)
        second zero z = absurd (z refl)
        second (suc m) z = refl

    module _ (s : Header) (q : Opened due.Slice slice s) where
      pub start_stops : {n : ℕ} → n ≡ start_refusal (net_from plan p) start → (n ≡ 0 → ⊥) → record { refused = true; code = n; number = 0 } ≡ checked_from plan slice start Q
      unfolding checked_from check_from_refusal
      start_stops {n} e z =
          let same : start_refusal (net_of plan) start ≡ n = ap (λ (g : Header). start_refusal (net_from plan g) start) (sym o.same) ∙ sym e in
          rw (o.read, q.read, same) (stops n (checked (started plan start) slice Q) z)

      pub goes_on_lem : {c : Checked} → start_refusal (net_from plan p) start ≡ 0 → c ≡ checked (started_from plan p start) slice Q → c ≡ checked_from plan slice start Q
      unfolding checked_from check_from_refusal
      goes_on_lem e f =
          let same : start_refusal (net_of plan) start ≡ 0 = ap (λ (g : Header). start_refusal (net_from plan g) start) (sym o.same) ∙ e in
          rw (o.read, q.read, same) (f ∙ ap (λ (x : List ℕ). checked x slice Q) (same_file start o))

  -- both promises, from the first
  pub with-guarantee : {c : Checked} → ((i : ℕ) → byte_at plan i < 256) → c ≡ checked_from plan slice start Q
      → (c ≡ checked_from plan slice start Q) × (c.code ≡ 0 → Guarantee (starting_at (standing start) (net_of plan)) (slice_of slice) Q)
  unfolding Bytes
  with-guarantee b e = (e, when_accepted plan slice start Q b e)
