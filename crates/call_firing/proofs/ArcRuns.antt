-- The arc run, by the way out that the call took.
use Prim.Native.Nat.{ℕ, zero, suc}
use mathlib.Core.Path.{◌≡◌, refl, sym, ap, ◌∙◌}
use mathlib.Core.Bool.{Bool, true, false}
use mathlib.Core.Logic.{◌≢◌}
use mathlib.Core.List.{List, []}
use borrow.Author.Tests.{ne_eqb}
use Rattle.file_words.specs.Refusal.{or_else}
use Rattle.file.specs.Refusal.{file_refusal}
use Rattle.file.specs.Facts.{Opened}
use Rattle.file.specs.Reading.{reading}
use Rattle.file_header.specs.declared.Due.{Due}
use Rattle.file_header.specs.declared.Due.TheVariants as due
use Rattle.std.proofs.Common.{Err}
use Rattle.file.proofs.Opening.{turned_back_err}
use Rattle.file_header.specs.declared.Header.{Header}
use Rattle.promise.specs.Firing.{run_in, arc_run, arc_start}
use Rattle.arcs_effect.specs.Runs.{run_of, start_of}

-- either file refused: no run
module _ (plan slice : List ℕ) (inslice : Bool) (t : ℕ) where
  refused : or_else (file_refusal due.Plan plan) (file_refusal due.Slice slice) ≢ 0 → arc_run plan slice inslice t ≡ []
  unfolding arc_run
  refused r = rw (ne_eqb _ 0 r)

  pub plan_refused : file_refusal due.Plan plan ≢ 0 → arc_run plan slice inslice t ≡ []
  plan_refused r = refused (λ e. r (first-0 (file_refusal due.Plan plan) _ e))
    where
      first-0 : (a b : ℕ) → or_else a b ≡ 0 → a ≡ 0
      first-0 zero b e = refl
      first-0 (suc a) b e = e

  pub slice_refused : file_refusal due.Plan plan ≡ 0 → file_refusal due.Slice slice ≢ 0 → arc_run plan slice inslice t ≡ []
  slice_refused p r = refused (λ e. r (ap (λ (n : ℕ). or_else n (file_refusal due.Slice slice)) (sym p) ∙ e))

  -- a run that is empty starts at 0
  pub no_start : arc_run plan slice inslice t ≡ [] → arc_start plan slice inslice t ≡ 0
  unfolding arc_start
  no_start e = rw e

module _ (plan slice : List ℕ) (p s : Header) (o : Opened due.Plan plan p) (q : Opened due.Slice slice s) (t : ℕ) where
  pub of_slice : arc_run plan slice true t ≡ run_of slice s t
  unfolding arc_run run_in run_of
  of_slice = rw (o.read, q.read, ← q.same)

  pub of_plan : arc_run plan slice false t ≡ run_of plan p t
  unfolding arc_run run_in run_of
  of_plan = rw (o.read, q.read, ← o.same)

  pub start_of_slice : arc_start plan slice true t ≡ start_of slice s t
  unfolding arc_start start_of
  start_of_slice = rw (of_slice, ← q.same)

  pub start_of_plan : arc_start plan slice false t ≡ start_of plan p t
  unfolding arc_start start_of
  start_of_plan = rw (of_plan, ← o.same)

-- a file that was not read is refused
pub not-read : (kind : Due) (s : List ℕ) {n : ℕ} → Err n ≡ reading kind s → file_refusal kind s ≢ 0
not-read kind s e z = let b = turned_back_err kind s e in b.1 (sym b.0 ∙ z)
