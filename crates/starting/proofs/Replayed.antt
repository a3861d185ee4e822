-- Replay of a list from a start: what the steps ask, and the answer for the file in which the start stands.
use Prim.Native.Nat.{ℕ, suc, ◌<◌}
use mathlib.Core.List.{List, [], ◌∷◌}
use mathlib.Core.Path.{◌≡◌, refl, sym, ap, subst⁻¹, ◌∙◌}
use native.Mathlib.Decide.{dec_lt}
use native.Mathlib.Omega.{arith}
use lib.ListN.{get_or}
use borrow.Author.Tests.{ltb-true}
use Rattle.net.specs.Net.{Net, Marking, Test, passes, short, full, Replay, WithinCaps, capped, fire, input, output, short_place, full_place, test_inputs, test_caps, test_firing, replay_from, replay, tokens}
use Rattle.net.proofs.Numbers.{is_true}
use Rattle.net.proofs.Markings.{tokens-are}
use Rattle.file_words.specs.Word.{byte_at}
use Rattle.file_header.specs.declared.Header.{Header}
use Rattle.file_header.specs.declared.Due.{Due}
use Rattle.file.specs.Layout.{net_from}
use Rattle.promise.specs.Firing.{replay_told, list_refusal}
use Rattle.promise.specs.Together.{standing}
use Rattle.promise.specs.Starts.{starting_at, started_from}
use Rattle.promise.proofs.Started.{start_fits, start_none}
use Rattle.inputs_lists.proofs.Passing.{list_short, list_known}
use Rattle.inputs_starts.specs.Startable.{Startable}
use Rattle.inputs_starts.proofs.Calls.{entries, started-at}
use Rattle.replay_steps.specs.Steps.{held, Listed}
use Rattle.replay.specs.Told.{ended_numbers}
use Rattle.replay.specs.Steps.{Ended}
use Rattle.replay.specs.declared.Outcome.{Outcome}

-- ---- a replay reads the initial marking only where it starts

-- what a test says, before the rest of the list
abbrev ends : ℕ → Marking → Replay → Test → Replay
ends i m R r = elim r [ passes ↦ R | short p n ↦ record { answer = short i p n; marking = m } | full p n ↦ record { answer = full i p n; marking = m } ]

by_test : (i : ℕ) (m : Marking) {A B : Replay} (r : Test) → A ≡ B → ends i m A r ≡ ends i m B r
by_test i m passes e = e
by_test i m (short p n) e = refl
by_test i m (full p n) e = refl

module _ (M : Marking) (N : Net) where
  from_same : (ts : List ℕ) (i : ℕ) (m : Marking) → replay_from (starting_at M N) i m ts ≡ replay_from N i m ts
  unfolding replay_from test_firing test_inputs test_caps short_place full_place fire capped input output
  from_same [] i m = refl
  from_same (t ∷ ts) i m = by_test i m (test_firing N t m) (from_same ts (suc i) (fire N t m))

  pub from_start : (ts : List ℕ) → replay (starting_at M N) ts ≡ replay_from N 0 M ts
  unfolding replay
  from_start ts = from_same ts 0 M

-- ---- a start that is not refused

module _ {d : Due} {s : List ℕ} {h : Header} {start : List ℕ} (r : Startable d s h start) where
  low : (p : ℕ) → Dec (p < h.places) → get_or start p 0 < 4294967296
  low p (yes u) = (start_fits (net_from s h) start r.passes p u).0
  low p (no u) = omega (arith, start_none (net_from s h) start r.passes p (omega (arith, u)))

  within : WithinCaps (net_from s h) (held start)
  unfolding WithinCaps capped
  within p l c = (start_fits (net_from s h) start r.passes p l).1 (ltb-true 0 _ (is_true _ c))

  pub listed : {ts : List ℕ} → list_refusal h.transitions ts ≡ 0 → Listed s h ts start
  listed {ts} e = record {
    short = list_short h.transitions ts e;
    known = list_known h.transitions ts e;
    low = λ p. low p (dec_lt p h.places);
    caps = within;
  }

  pub ended-started : ((i : ℕ) → byte_at s i < 256) → (ts : List ℕ) {m : List ℕ} (o : Outcome) → Ended s h ts start m o
      → (ended_numbers o ≡ replay_told (replay (net_from (started_from s h start) h) ts).answer) × (m ≡ tokens (net_from (started_from s h start) h) (replay (net_from (started_from s h start) h) ts).marking)
  ended-started b ts {m} o x =
      subst⁻¹ (λ (N : Net). (ended_numbers o ≡ replay_told (replay N ts).answer) × (m ≡ tokens N (replay N ts).marking)) (started-at r b) (
      let N = starting_at (standing start) (net_from s h) in
      let e = sym (from_start (standing start) (net_from s h) ts) in (
        x.0 ∙ ap (λ (R : Replay). replay_told R.answer) e,
        tokens-are N (replay N ts).marking m (x.1.long ∙ entries r) (λ p l. x.1.at p ∙ ap (λ (R : Replay). R.marking p) e),
      ))
