-- The answer and the buffer of a cut, by the way out that the call took.
use Prim.Native.Nat.{ℕ, zero, suc, ◌<◌}
use mathlib.Core.Path.{◌≡◌, refl, sym, ap, ap₂, subst, ◌∙◌}
use mathlib.Core.Logic.{◌≢◌}
use mathlib.Core.Bool.{true, false}
use mathlib.Core.List.{List}
use lib.ListN.{length}
use Rattle.std.specs.Prelude.{Result, Err}
use Rattle.refusals.specs.Numbers.{number}
use Rattle.refusals.specs.declared.Refusal.{Refusal}
use Rattle.refusals.proofs.Numbers.{number_above, number_some}
use Rattle.net.specs.Cut.{growth, safety, branching}
use Rattle.net.specs.Slice.{Slice, keeping, cut}
use Rattle.file_words.specs.Word.{byte_at, Bytes}
use Rattle.file_header.specs.Layout.{header_of}
use Rattle.file.specs.Layout.{net_from}
use Rattle.file.specs.Refusal.{file_refusal}
use Rattle.file.specs.Criterion.{criterion_refusal}
use Rattle.file_writing.specs.Writing.{slice_bytes}
use Rattle.file.specs.Facts.{Opened}
use Rattle.file_header.specs.declared.Due.TheVariants as due
use Rattle.file_header.specs.declared.Header.{Header}
use Rattle.file_words.proofs.Laws.{or_else_stop}
use Rattle.promise.specs.Calls.{CutAnswer, cut_answer, cut_of, cut_refusal, write_refusal, written, safety_file, safety_answer, safety_buffer, branching_file, branching_answer, branching_buffer, Accepts}
use Rattle.promise.specs.Promise.{WritesSmallest}
use Rattle.promise.proofs.Demands.{writes_smallest}
use Rattle.sets.specs.declared.KeptSets.{KeptSets}
use Rattle.cut.specs.Kept.{growth_of, Kept}
use Rattle.slice.specs.Kept.{cut_numbers, kept_slice, room_refusal, Answers, Within}
use Rattle.slice.specs.declared.Written.{Written}

-- what a refused cut answers and leaves
refused : (w : Refusal) (len : ℕ) (S : Slice) → cut_numbers (Err w) ≡ cut_answer (number w) len S
refused w len S =
    let above = number_above w in
    (λ i. record { refused = true; refusal = above.1 i; length = 0; places = 0; transitions = 0 }) ∙ ap (λ (n : ℕ). cut_answer n len S) (sym above.1)

untouched : (n : ℕ) (file buffer : List ℕ) → n ≢ 0 → buffer ≡ written n file buffer
untouched zero file buffer r = absurd (r refl)
untouched (suc n) file buffer r = refl

-- a cut that is refused before it writes
module _ (plan Q : List ℕ) (w : Refusal) (e : cut_refusal plan Q ≡ number w) where
  stops : (room : ℕ) (file : List ℕ) → write_refusal plan Q room file ≡ number w
  unfolding write_refusal
  stops room file = rw e (or_else_stop (number w) _ (number_some w))

  pub safety-refused : (room : ℕ) → cut_numbers (Err w) ≡ safety_answer plan Q room
  unfolding safety_answer
  safety-refused room = rw (stops room (safety_file plan Q)) (refused w _ _)

  pub safety-untouched : (buffer : List ℕ) → buffer ≡ safety_buffer plan Q buffer
  unfolding safety_buffer
  safety-untouched buffer = rw (stops (length buffer) (safety_file plan Q)) (untouched (number w) _ buffer (number_some w))

  pub branching-refused : (room : ℕ) → cut_numbers (Err w) ≡ branching_answer plan Q room
  unfolding branching_answer
  branching-refused room = rw (stops room (branching_file plan Q)) (refused w _ _)

  pub branching-untouched : (buffer : List ℕ) → buffer ≡ branching_buffer plan Q buffer
  unfolding branching_buffer
  branching-untouched buffer = rw (stops (length buffer) (branching_file plan Q)) (untouched (number w) _ buffer (number_some w))

-- by the file, and by the criterion
pub by_file : (plan Q : List ℕ) {n : ℕ} → file_refusal due.Plan plan ≡ n → n ≢ 0 → cut_refusal plan Q ≡ n
unfolding cut_refusal
by_file plan Q {n} e r = rw e (or_else_stop n _ r)

module _ (plan Q : List ℕ) (h : Header) (o : Opened due.Plan plan h) where
  pub by_criterion : {n : ℕ} → n ≡ criterion_refusal h.places Q → cut_refusal plan Q ≡ n
  unfolding cut_refusal
  by_criterion e = rw (o.read, ← o.same) (sym e)

  module _ (q : criterion_refusal h.places Q ≡ 0) where
    goes_on_lem : (room : ℕ) (file : List ℕ) (edition : ℕ) (S : Slice) → file ≡ slice_bytes edition S → write_refusal plan Q room file ≡ room_refusal edition room S
    unfolding write_refusal
    goes_on_lem room file edition S e = rw (by_criterion (sym q), e)

    -- what is written is the cut
    module _ (kept : KeptSets) where
      pub safety-within : Kept (growth_of false (net_from plan h) Q) kept → Within kept h
      unfolding safety growth
      safety-within k = record { places = k.places_below; transitions = k.transitions_below }

      pub branching-within : Kept (growth_of true (net_from plan h) Q) kept → Within kept h
      unfolding branching growth
      branching-within k = record { places = k.places_below; transitions = k.transitions_below }

      safety_slice : Kept (growth_of false (net_from plan h) Q) kept → kept_slice plan h kept ≡ cut_of safety plan Q
      unfolding kept_slice cut_of cut safety growth
      safety_slice k = rw (← o.same) (ap₂ (keeping (net_from plan h)) k.places k.transitions)

      branching-slice : Kept (growth_of true (net_from plan h) Q) kept → kept_slice plan h kept ≡ cut_of branching plan Q
      unfolding kept_slice cut_of cut branching growth
      branching-slice k = rw (← o.same) (ap₂ (keeping (net_from plan h)) k.places k.transitions)

      -- "a slice keeps its plan's edition"
      module _ (entry exit : List ℕ) (r : Result Written Refusal) (a : Answers h.edition (kept_slice plan h kept) entry exit r) where
        abbrev edition : ℕ
        edition = (header_of plan).edition

        same_edition : (S : Slice) → kept_slice plan h kept ≡ S → Answers edition S entry exit r
        same_edition S e =
            subst (λ (k : Header). Answers k.edition S entry exit r) o.same (subst (λ (K : Slice). Answers h.edition K entry exit r) e a)

        pub safety-written : Kept (growth_of false (net_from plan h) Q) kept → (cut_numbers r ≡ safety_answer plan Q (length entry)) × (exit ≡ safety_buffer plan Q entry)
        unfolding safety_answer safety_buffer safety_file
        safety-written k =
            let S = cut_of safety plan Q in
            let b = same_edition S (safety_slice k) in
            let on = goes_on_lem (length entry) (slice_bytes edition S) edition S refl in
            (rw on b.answer, rw on b.buffer)

        pub branching-written : Kept (growth_of true (net_from plan h) Q) kept → (cut_numbers r ≡ branching_answer plan Q (length entry)) × (exit ≡ branching_buffer plan Q entry)
        unfolding branching_answer branching_buffer branching_file
        branching-written k =
            let S = cut_of branching plan Q in
            let b = same_edition S (branching-slice k) in
            let on = goes_on_lem (length entry) (slice_bytes edition S) edition S refl in
            (rw on b.answer, rw on b.buffer)

-- the three promises of the safety cut, from the first two
pub safety-all : (plan Q entry : List ℕ) {exit : List ℕ} {a : CutAnswer} → ((i : ℕ) → byte_at plan i < 256)
    → (a ≡ safety_answer plan Q (length entry)) × (exit ≡ safety_buffer plan Q entry)
    → (a ≡ safety_answer plan Q (length entry)) × ((exit ≡ safety_buffer plan Q entry) × WritesSmallest (λ S. Accepts plan S Q) a exit)
unfolding Bytes
safety-all plan Q entry b (e, f) = (e, (f, writes_smallest plan Q entry b e f))
