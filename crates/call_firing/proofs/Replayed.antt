-- The answer of `replay` and its marking, by the way out that the call took.
use Prim.Native.Nat.{ℕ}
use mathlib.Core.Path.{◌≡◌, refl}
use mathlib.Core.List.{List}
use lib.ListN.{length}
use Rattle.net.specs.Net.{Answer, replay, tokens}
use Rattle.file.specs.Layout.{net_from}
use Rattle.file.specs.Refusal.{file_refusal}
use Rattle.file.specs.Facts.{Opened}
use Rattle.file_header.specs.declared.Due.TheVariants.{Either}
use Rattle.file_header.specs.declared.Header.{Header}
use Rattle.file_words.proofs.Laws.{or_else_stop}
use Rattle.promise.specs.Calls.{written}
use Rattle.promise.specs.Firing.{ReplayAnswer, replay_or, replay_refusal, replay_answer, replay_marking}
use Rattle.replay.specs.Told.{outcome_numbers, held_back}
use Rattle.std.proofs.Common.{Err}
use Rattle.refusals.specs.Numbers.{number}
use Rattle.refusals.specs.declared.Refusal.{Refusal}
use Rattle.refusals.proofs.Numbers.{number_above, number_some}
use Rattle.inputs_lists.proofs.Passing.{kept-refused}

-- "A refusal returns its number with zeros elsewhere"
told-refused : (e : Refusal) {m : ℕ} (a : Answer) → m ≡ number e → outcome_numbers (Err e) ≡ replay_or m a
told-refused e a q = let z = number_above e in rw (q, z.1)

module _ (s list : List ℕ) (e : Refusal) (a : file_refusal Either s ≡ number e) where
  pub file_answer_lem : (room : ℕ) → outcome_numbers (Err e) ≡ replay_answer s list room
  unfolding replay_answer replay_refusal
  file_answer_lem room = told-refused e _ (rw (a, or_else_stop (number e) _ (number_some e)))

  pub file_marking : (m : List ℕ) → m ≡ replay_marking s list m
  unfolding replay_marking replay_refusal
  file_marking m = rw (a, or_else_stop (number e) _ (number_some e)) (kept-refused (number e) _ m refl (number_some e))

module _ (s : List ℕ) (h : Header) (o : Opened Either s h) (list : List ℕ) where
  pub read_answer : (room : ℕ) (r : ReplayAnswer) → r ≡ replay_or (held_back h list room) (replay (net_from s h) list).answer → r ≡ replay_answer s list room
  unfolding replay_answer replay_refusal
  read_answer room r e = rw (o.read, ← o.same) e

  pub read_marking : (m m' : List ℕ) → m' ≡ written (held_back h list (length m)) (tokens (net_from s h) (replay (net_from s h) list).marking) m → m' ≡ replay_marking s list m
  unfolding replay_marking replay_refusal
  read_marking m m' e = rw (o.read, ← o.same) e
