-- The answer and the two buffers of the run cut, by the way out that the call took.
use Prim.Native.Nat.{ℕ, zero, suc, ◌<◌}
use mathlib.Core.Bool.{true, false}
use mathlib.Core.List.{List}
use mathlib.Core.Logic.{◌≢◌}
use mathlib.Core.Path.{◌≡◌, refl, sym, subst}
use lib.ListN.{length}
use Rattle.std.specs.Prelude.{Result, Err}
use Rattle.refusals.specs.Numbers.{number}
use Rattle.refusals.specs.declared.Refusal.{Refusal}
use Rattle.refusals.proofs.Numbers.{number_some}
use Rattle.net.specs.Net.{has_caps}
use Rattle.file_words.specs.Word.{byte_at, Bytes}
use Rattle.file_header.specs.Layout.{header_of}
use Rattle.file.specs.Layout.{net_from, net_of}
use Rattle.file.specs.Refusal.{file_refusal}
use Rattle.file.specs.Criterion.{criterion_refusal}
use Rattle.file.specs.Facts.{Opened}
use Rattle.file_header.specs.declared.Due.TheVariants as due
use Rattle.file_header.specs.declared.Header.{Header}
use Rattle.file_words.proofs.Laws.{or_else_stop}
use Rattle.promise.specs.Calls.{written}
use Rattle.promise.specs.Firing.{list_refusal}
use Rattle.promise.specs.RunCut.{RunAnswer, run_or, run_refusal, run_outcome, run_file, run_chosen, run_answer, run_buffer, run_positions, RunsBack}
use Rattle.promise.proofs.RunCut.{runs_back_at}
use Rattle.run_cut.specs.Told.{run_numbers, answer_to, Answers}
use Rattle.run_cut.specs.declared.RunCut.{RunCut}

-- what the call says of its answer and of the two buffers
abbrev Told : List ℕ → List ℕ → List ℕ → List ℕ → List ℕ → RunAnswer → List ℕ → List ℕ → Type 0
Told plan Q list entry slots a exit positions =
    (a ≡ run_answer plan Q list (length entry) (length slots)) × (exit ≡ run_buffer plan Q list entry (length slots)) × (positions ≡ run_positions plan Q list (length entry) slots)

-- what is refused first: the file, a cap, the criterion
pub by_file : (plan Q : List ℕ) {n : ℕ} → file_refusal due.Plan plan ≡ n → n ≢ 0 → run_refusal plan Q ≡ n
unfolding run_refusal
by_file plan Q {n} e r = rw e (or_else_stop n _ r)

module _ (plan Q : List ℕ) (h : Header) (o : Opened due.Plan plan h) where
  pub by_caps : has_caps (net_from plan h) ≡ true → run_refusal plan Q ≡ 17
  unfolding run_refusal
  by_caps e = rw (o.read, ← o.same, e)

  pub by_criterion : has_caps (net_from plan h) ≡ false → {n : ℕ} → n ≡ criterion_refusal h.places Q → run_refusal plan Q ≡ n
  unfolding run_refusal
  by_criterion e q = rw (o.read, ← o.same, e) (sym q)

-- one of them is refused
module _ (plan Q list entry slots : List ℕ) (w : Refusal) (e : run_refusal plan Q ≡ number w) where
  pub run-refused : Told plan Q list entry slots (run_numbers (Err w)) entry slots
  unfolding run_answer run_buffer run_positions
  run-refused = rw e (by_number (number w) refl (number_some w) (run_or (list_refusal (net_of plan).transitions list) (run_outcome (header_of plan).edition (net_of plan) Q list (length entry) (length slots))) (run_file plan Q list) (run_chosen plan Q list))
    where
      by_number : (n : ℕ) → number w ≡ n → n ≢ 0 → (x : RunAnswer) (f c : List ℕ) → (run_numbers (Err w) ≡ run_or n x) × (entry ≡ written (run_or n x).refusal f entry) × (slots ≡ written (run_or n x).refusal c slots)
      by_number zero q r x f c = absurd (r refl)
      by_number (suc n) q r x f c = (λ i. record { refused = true; refusal = q i; length = 0; places = 0; transitions = 0; count = 0; stuck = false; index = 0; place = 0; amount = 0 }, refl, refl)

-- none is
module _ (plan Q list : List ℕ) (h : Header) (o : Opened due.Plan plan h) (none : has_caps (net_from plan h) ≡ false) (q : criterion_refusal h.places Q ≡ 0) (entry exit slots positions : List ℕ) (r : Result RunCut Refusal)
    (a : Answers plan h Q list (answer_to plan h Q list (length entry) (length slots)) entry exit slots positions r) where
  same : run_answer plan Q list (length entry) (length slots) ≡ answer_to plan (header_of plan) Q list (length entry) (length slots)
  unfolding run_answer
  same = rw (by_criterion plan Q h o none (sym q))

  pub run-passed : Told plan Q list entry slots (run_numbers r) exit positions
  unfolding run_buffer run_positions run_file run_chosen
  run-passed =
      let b = subst (λ (k : Header). Answers plan k Q list (answer_to plan k Q list (length entry) (length slots)) entry exit slots positions r) o.same a in
      rw same (b.answer, b.buffer, b.second)

-- the four promises, from these three
pub run-all : (plan Q list entry slots : List ℕ) {exit positions : List ℕ} {a : RunAnswer} → ((i : ℕ) → byte_at plan i < 256) → Told plan Q list entry slots a exit positions
    → (a ≡ run_answer plan Q list (length entry) (length slots)) × ((exit ≡ run_buffer plan Q list entry (length slots)) × ((positions ≡ run_positions plan Q list (length entry) slots) × RunsBack plan Q list a exit positions))
unfolding Bytes
run-all plan Q list entry slots b (e, f, g) = (e, (f, (g, runs_back_at plan Q list entry slots b e f g)))
