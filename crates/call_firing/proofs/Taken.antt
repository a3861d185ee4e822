-- The answer of `together` and its list, by the way out that the call took.
use Prim.Native.Nat.{ℕ}
use mathlib.Core.Path.{◌≡◌, refl}
use mathlib.Core.List.{List}
use lib.ListN.{length}
use Rattle.net.specs.Net.{tokens}
use Rattle.net.specs.Together.{Takings, together, remainder}
use Rattle.file.specs.Layout.{net_from}
use Rattle.file.specs.Refusal.{file_refusal}
use Rattle.file.specs.Facts.{Opened}
use Rattle.file_header.specs.declared.Due.TheVariants.{Plan}
use Rattle.file_header.specs.declared.Header.{Header}
use Rattle.file_words.proofs.Laws.{or_else_stop}
use Rattle.promise.specs.Calls.{written}
use Rattle.promise.specs.Together.{standing, TogetherAnswer, together_or, together_refusal, together_answer, together_rest, TakesLargest}
use Rattle.promise.proofs.Together.{takes_largest}
use Rattle.together.specs.Told.{together_numbers, held_back}
use Rattle.std.proofs.Common.{Err}
use Rattle.refusals.specs.Numbers.{number}
use Rattle.refusals.specs.declared.Refusal.{Refusal}
use Rattle.refusals.proofs.Numbers.{number_above, number_some}
use Rattle.inputs_lists.proofs.Passing.{kept-refused}

-- what the call promises of its answer and its list
abbrev pub Answers : List ℕ → ℕ → List ℕ → List ℕ → TogetherAnswer → List ℕ → Type 0
Answers plan t marking rest a exit =
    (a ≡ together_answer plan t marking (length rest)) × ((exit ≡ together_rest plan t marking rest) × TakesLargest plan t marking a exit)

-- "A refusal returns its number with zeros elsewhere"
told-refused : (e : Refusal) {m : ℕ} (x : Takings) → m ≡ number e → together_numbers (Err e) ≡ together_or m x
told-refused e x q = let z = number_above e in rw (q, z.1)

module _ (plan : List ℕ) (t : ℕ) (marking rest : List ℕ) where
  meant : {a : TogetherAnswer} {exit : List ℕ} → a ≡ together_answer plan t marking (length rest) → exit ≡ together_rest plan t marking rest → Answers plan t marking rest a exit
  meant e f = (e, (f, takes_largest plan t marking rest e f))

  module _ (e : Refusal) (a : file_refusal Plan plan ≡ number e) where
    file_answer_lem : together_numbers (Err e) ≡ together_answer plan t marking (length rest)
    unfolding together_answer together_refusal
    file_answer_lem = told-refused e _ (rw (a, or_else_stop (number e) _ (number_some e)))

    file_rest : rest ≡ together_rest plan t marking rest
    unfolding together_rest together_refusal
    file_rest = rw (a, or_else_stop (number e) _ (number_some e)) (kept-refused (number e) _ rest refl (number_some e))

    pub file_refused : Answers plan t marking rest (together_numbers (Err e)) rest
    file_refused = meant file_answer_lem file_rest

  module _ (h : Header) (o : Opened Plan plan h) where
    read_answer : (r : TogetherAnswer) → r ≡ together_or (held_back h t (length marking) (length rest)) (together (net_from plan h) t (standing marking)) → r ≡ together_answer plan t marking (length rest)
    unfolding together_answer together_refusal
    read_answer r e = rw (o.read, ← o.same) e

    read_rest : (exit : List ℕ)
        → exit ≡ written (held_back h t (length marking) (length rest)) (tokens (net_from plan h) (remainder (net_from plan h) t (standing marking) (together (net_from plan h) t (standing marking)))) rest
        → exit ≡ together_rest plan t marking rest
    unfolding together_rest together_refusal
    read_rest exit e = rw (o.read, ← o.same) e

    pub answered : (r : TogetherAnswer) (exit : List ℕ) → r ≡ together_or (held_back h t (length marking) (length rest)) (together (net_from plan h) t (standing marking))
        → exit ≡ written (held_back h t (length marking) (length rest)) (tokens (net_from plan h) (remainder (net_from plan h) t (standing marking) (together (net_from plan h) t (standing marking)))) rest
        → Answers plan t marking rest r exit
    answered r exit e f = meant (read_answer r e) (read_rest exit f)
