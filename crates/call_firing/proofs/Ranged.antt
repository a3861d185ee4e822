-- The answer of `range` and its list, by the way out that the call took.
use Prim.Native.Nat.{ℕ}
use mathlib.Core.Path.{◌≡◌, refl}
use mathlib.Core.List.{List}
use lib.ListN.{length}
use Rattle.net.specs.Net.{tokens}
use Rattle.net.specs.Range.{Extent, need, extent}
use Rattle.file.specs.Layout.{net_from}
use Rattle.file.specs.Refusal.{file_refusal}
use Rattle.file.specs.Facts.{Opened}
use Rattle.file_header.specs.declared.Due.TheVariants.{Plan}
use Rattle.file_header.specs.declared.Header.{Header}
use Rattle.file_words.proofs.Laws.{or_else_stop}
use Rattle.promise.specs.Calls.{written}
use Rattle.promise.specs.Together.{standing}
use Rattle.promise.specs.Range.{RangeAnswer, range_or, range_refusal, range_answer, range_need, TellsRange}
use Rattle.promise.proofs.Range.{tells_range}
use Rattle.range.specs.Told.{range_numbers, held_back}
use Rattle.std.proofs.Common.{Err}
use Rattle.refusals.specs.Numbers.{number}
use Rattle.refusals.specs.declared.Refusal.{Refusal}
use Rattle.refusals.proofs.Numbers.{number_above, number_some}
use Rattle.inputs_lists.proofs.Passing.{kept-refused}

-- what the call promises of its answer and its list
abbrev pub Answers : List ℕ → List ℕ → List ℕ → List ℕ → RangeAnswer → List ℕ → Type 0
Answers plan list upper lent a exit =
    (a ≡ range_answer plan list upper (length lent)) × ((exit ≡ range_need plan list upper lent) × TellsRange plan list upper a exit)

-- "A refusal returns its number with zeros elsewhere"
told-refused : (e : Refusal) {m : ℕ} (x : Extent) → m ≡ number e → range_numbers (Err e) ≡ range_or m x
told-refused e x q = let z = number_above e in rw (q, z.1)

module _ (plan list upper lent : List ℕ) where
  meant : {a : RangeAnswer} {exit : List ℕ} → a ≡ range_answer plan list upper (length lent) → exit ≡ range_need plan list upper lent → Answers plan list upper lent a exit
  meant e f = (e, (f, tells_range plan list upper lent e f))

  module _ (e : Refusal) (a : file_refusal Plan plan ≡ number e) where
    file_answer_lem : range_numbers (Err e) ≡ range_answer plan list upper (length lent)
    unfolding range_answer range_refusal
    file_answer_lem = told-refused e _ (rw (a, or_else_stop (number e) _ (number_some e)))

    file_need : lent ≡ range_need plan list upper lent
    unfolding range_need range_refusal
    file_need = rw (a, or_else_stop (number e) _ (number_some e)) (kept-refused (number e) _ lent refl (number_some e))

    pub file_refused : Answers plan list upper lent (range_numbers (Err e)) lent
    file_refused = meant file_answer_lem file_need

  module _ (h : Header) (o : Opened Plan plan h) where
    read_answer : (r : RangeAnswer) → r ≡ range_or (held_back plan h list upper (length lent)) (extent (net_from plan h) (standing upper) list) → r ≡ range_answer plan list upper (length lent)
    unfolding range_answer range_refusal
    read_answer r e = rw (o.read, ← o.same) e

    read_need : (exit : List ℕ) → exit ≡ written (held_back plan h list upper (length lent)) (tokens (net_from plan h) (need (net_from plan h) list)) lent → exit ≡ range_need plan list upper lent
    unfolding range_need range_refusal
    read_need exit e = rw (o.read, ← o.same) e

    pub answered : (r : RangeAnswer) (exit : List ℕ) → r ≡ range_or (held_back plan h list upper (length lent)) (extent (net_from plan h) (standing upper) list)
        → exit ≡ written (held_back plan h list upper (length lent)) (tokens (net_from plan h) (need (net_from plan h) list)) lent → Answers plan list upper lent r exit
    answered r exit e f = meant (read_answer r e) (read_need exit f)
