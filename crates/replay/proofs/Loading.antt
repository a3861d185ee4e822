-- The initial marking, written entry by entry, and a replay from there.
use Prim.Native.Nat.{ℕ, ◌+◌, ◌*◌, ◌<◌, ◌≤◌}
use mathlib.Core.Bool.{Bool, true, false}
use mathlib.Core.Path.{◌≡◌, refl, ap, sym, ◌∙◌, fun_ext}
use mathlib.Core.List.{List}
use native.Mathlib.Decide.{dec_lt}
use native.Mathlib.Omega.{arith}
use lib.Dec.{eqb}
use lib.ListN.{length, get_or, get_or-eq_default}
use Rattle.net.specs.Net.{Marking, Replay, tokens, replay, replay_from}
use Rattle.net.proofs.Markings.{below_at, below-off, length-tokens, get_d_tokens, tokens-are}
use Rattle.file_words.specs.Word.{le32, Bytes}
use Rattle.file_header.specs.Layout.{pick, places_length}
use Rattle.file.specs.Layout.{marking_at, net_from}
use Rattle.file_header.specs.Facts.{Placed}
use Rattle.file_header.specs.declared.Header.{Header}
use Rattle.file.proofs.Caps.{marking_lt}
use Rattle.file_header.proofs.Laws.{place-within}
use Rattle.promise.specs.Firing.{replay_told}
use Rattle.inputs_lists.proofs.Passing.{list_short, list_known}
use Rattle.replay_steps.specs.Steps.{held, Holds, Listed}
use Rattle.replay_steps.proofs.Underway.{held-within}
use Rattle.replay.specs.Told.{ended_numbers}
use Rattle.replay.specs.Steps.{begun, Passed, Ended}
use Rattle.replay.specs.declared.Outcome.{Outcome}

-- ---- where the marking of a place stands

-- n bytes a place: the marking of place p is in the file, and it is the net's
pub record Stands (s : List ℕ) (h : Header) (n p : ℕ) : Type 0 where
  pub fits : h.markstart + n * p + 4 ≤ length s
  pub is : le32 s (h.markstart + n * p) ≡ (net_from s h).marking p

module _ (s : List ℕ) (h : Header) (w : Placed (length s) h) (p : ℕ) (l : p < h.places) where
  stands : (n : ℕ) → places_length h.edition p ≡ n * p → Stands s h n p
  stands n e = record {
    fits = omega (arith, e, place-within h.edition p h.places l, w.markings_fit, w.arcs_fit, w.origins_fit);
    is = ap (λ (x : ℕ). le32 s (h.markstart + x)) (sym e) ∙ sym (below_at h.places (marking_at s h) p l);
  }

  picks : (b c : Bool) → b ≡ c → pick b (8 * p) (4 * p) ≡ pick c (8 * p) (4 * p)
  picks b c e = ap (λ (x : Bool). pick x (8 * p) (4 * p)) e

  pub stands_capped : eqb h.edition 2 ≡ true → Stands s h 8 p
  stands_capped e = stands 8 (picks _ true e)

  pub stands_plain : eqb h.edition 2 ≡ false → Stands s h 4 p
  stands_plain e = stands 4 (picks _ false e)

-- every place's marking is written, n bytes a place
pub loaded : {s : List ℕ} {h : Header} (m₀ : List ℕ) {m : List ℕ} (n : ℕ) → length m₀ ≡ h.places → length m ≡ length m₀ → ((p : ℕ) → p < length m₀ → get_or m p 0 ≡ le32 s (h.markstart + n * p))
    → ((p : ℕ) → p < h.places → Stands s h n p) → m ≡ begun s h
loaded {s} {h} m₀ {m} n places long at each =
    tokens-are (net_from s h) (net_from s h).marking m (long ∙ places) (λ p u. at p (omega (arith, places)) ∙ (each p u).is)

-- ---- the list holds the initial marking

module _ (s : List ℕ) (h : Header) where
  pub begun-long : length (begun s h) ≡ h.places
  begun-long = length-tokens (net_from s h) (net_from s h).marking

  begun-holds : Holds (begun s h) (begun s h) (net_from s h).marking
  begun-holds = record { long = refl; at = λ p. at p (dec_lt p h.places) }
    where
      at : (p : ℕ) → Dec (p < h.places) → get_or (begun s h) p 0 ≡ (net_from s h).marking p
      at p (yes u) = get_d_tokens (net_from s h) (net_from s h).marking p u
      at p (no u) =
          omega (
            arith,
            get_or-eq_default (begun s h) 0 {n = p} (omega (arith, u, begun-long)),
            below-off h.places (marking_at s h) p (omega (arith, u)),
          )

  -- "starts at the initial marking"
  from_initial : (ts : List ℕ) → replay_from (net_from s h) 0 (held (begun s h)) ts ≡ replay (net_from s h) ts
  unfolding replay
  from_initial ts = ap (λ (M : Marking). replay_from (net_from s h) 0 M ts) (fun_ext begun-holds.at)

  pub listed : {ts m : List ℕ} → Passed s h ts m → Bytes s → Listed s h ts (begun s h)
  listed {ts} passed b = record {
    short = list_short h.transitions ts passed.list;
    known = list_known h.transitions ts passed.list;
    low = λ p. omega (arith, begun-holds.at p, marking_lt s b h p);
    caps = held-within (net_from s h) (net_from s h).marking passed.sound.caps begun-holds;
  }

  -- what the replay from the initial marking answers, and the list that holds the marking that it ends with
  pub ended-initial : (ts : List ℕ) {m : List ℕ} (o : Outcome) → Ended s h ts (begun s h) m o → (ended_numbers o ≡ replay_told (replay (net_from s h) ts).answer) × (m ≡ tokens (net_from s h) (replay (net_from s h) ts).marking)
  ended-initial ts {m} o r =
      let e = from_initial ts in (
        r.0 ∙ ap (λ (R : Replay). replay_told R.answer) e,
        tokens-are (net_from s h) (replay (net_from s h) ts).marking m (r.1.long ∙ begun-long)
            (λ p l. r.1.at p ∙ ap (λ (R : Replay). R.marking p) e),
      )
