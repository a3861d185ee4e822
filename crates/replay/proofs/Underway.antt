-- How a replay goes on, and how it ends: all fired, or stuck at a firing.
use Prim.Native.Nat.{ℕ, ◌+◌, ◌<◌, ◌≤◌}
use mathlib.Core.Path.{◌≡◌, refl, ap, sym, subst, subst⁻¹, ◌∙◌}
use mathlib.Core.List.{List}
use native.Mathlib.Omega.{arith}
use lib.ListN.{length, get_or, drop}
use Rattle.net.specs.Net.{Answer, Replay, ShortAt, Supplied, fire, replay_from}
use Rattle.net.proofs.Uncapped.{uncapped_enabled}
use Rattle.file_words.specs.Word.{Bytes}
use Rattle.file.specs.Layout.{net_from}
use Rattle.file.specs.Facts.{Sound}
use Rattle.file_header.specs.declared.Header.{Header}
use Rattle.promise.specs.Firing.{ReplayAnswer, replay_told}
use Rattle.replay_steps.specs.Steps.{held, Ready, Plain, Holds, Listed, Underway}
use Rattle.replay_steps.proofs.Underway.{known, fired_on_lem, replay-end, replay-short, replay-full}
use Rattle.replay_firing.specs.Firing.{Firable, Filled}
use Rattle.replay_firing.specs.declared.Excess.{Excess}
use Rattle.replay_firing.proofs.Short.{Covered, supplied}
use Rattle.std.proofs.Common.{None, Some}
use Rattle.replay.specs.Told.{ended_numbers}
use Rattle.replay.specs.Steps.{Ended, Going, EndedFrom}
use Rattle.replay.specs.declared.Outcome.{Outcome}
use Rattle.replay.specs.declared.Outcome.TheVariants.{Fired, Short, Full}

pub underway_from : {s : List ℕ} {h : Header} {ts m₀ m₁ m : List ℕ} {k : ℕ} → m₁ ≡ m₀ → Underway s h ts m₁ m k → Underway s h ts m₀ m k
underway_from {s} {h} {ts} {m₀} {m₁} {m} {k} e u = subst (λ (l : List ℕ). Underway s h ts l m k) e u

-- an end, by another name of the replay
told-by : {A B : Replay} {t : ReplayAnswer} → A ≡ B → t ≡ replay_told A.answer → t ≡ replay_told B.answer
told-by e x = x ∙ ap (λ (R : Replay). replay_told R.answer) e

holds_by : {A B : Replay} {m₁ m₂ m : List ℕ} → A ≡ B → length m₁ ≡ length m₂ → Holds m₁ m A.marking → Holds m₂ m B.marking
holds_by e l x = record { long = x.long ∙ l; at = λ p. x.at p ∙ ap (λ (R : Replay). R.marking p) e }

-- from a first marking on: to a marking that a replay is at, and from there to the end
module _ {s : List ℕ} {h : Header} {ts m₀ m : List ℕ} {k : ℕ} (u : Underway s h ts m₀ m k) where
  pub going_from : Going s h ts m k m k
  going_from = record { initial = m₀; was = u; is = u }

  pub ended-whole : {m' : List ℕ} {o : Outcome} → EndedFrom s h ts m k m' o → Ended s h ts m₀ m' o
  ended-whole x = (told-by u.same x.answer, holds_by u.same u.long x.marking)

module _ {s : List ℕ} {h : Header} {ts m₁ m : List ℕ} {n k : ℕ} (g : Going s h ts m₁ n m k) where
  pub going_on : {m' : List ℕ} {k' : ℕ} → Underway s h ts g.initial m' k' → Going s h ts m₁ n m' k'
  going_on v = record { initial = g.initial; was = g.was; is = v }

  pub ended-rest : {m' : List ℕ} {o : Outcome} → Ended s h ts g.initial m' o → EndedFrom s h ts m₁ n m' o
  ended-rest x = record { answer = told-by (sym g.was.same) x.0; marking = holds_by (sym g.was.same) (sym g.was.long) x.1 }

  pub ended-on : {m' : List ℕ} {o : Outcome} → EndedFrom s h ts m k m' o → EndedFrom s h ts m₁ n m' o
  ended-on x = ended-rest (ended-whole g.is x)

-- a replay of which no firing is done: what replays from its marking replays from the first
module _ {s : List ℕ} {h : Header} {ts m₀ m : List ℕ} {n : ℕ} (u : Underway s h ts m₀ m n) (none : n ≡ 0) where
  pub listed_still : Listed s h ts m
  listed_still = record { short = u.listed.short; known = u.listed.known; low = λ p. omega (arith, u.low p, none); caps = u.caps }

  pub underway_then : {m' : List ℕ} {k : ℕ} → Underway s h ts m m' k → Underway s h ts m₀ m' k
  underway_then v = record {
    listed = u.listed;
    within = v.within;
    long = v.long ∙ u.long;
    low = v.low;
    caps = v.caps;
    same = v.same ∙ subst (λ (i : ℕ). replay_from (net_from s h) i (held m) (drop i ts) ≡ replay_from (net_from s h) 0 (held m₀) ts) none u.same;
  }

-- a replay that was at m₁ is at m
module _ {s : List ℕ} {h : Header} {ts m₀ m₁ m : List ℕ} {n k : ℕ} (was : Underway s h ts m₀ m₁ n) (is : Underway s h ts m₀ m k) where
  long_still : length m ≡ length m₁
  long_still = is.long ∙ sym was.long

  pub ready_on : {table : List ℕ} → Ready s h table m₁ → Ready s h table m
  ready_on r = record { sound = r.sound; bytes = r.bytes; long = r.long; starts = r.starts; places = long_still ∙ r.places }

module _ {s : List ℕ} {h : Header} {ts m₀ m : List ℕ} {k : ℕ} (u : Underway s h ts m₀ m k) where
  ended : {a : Answer} (o : Outcome) → replay_from (net_from s h) 0 (held m₀) ts ≡ record { answer = a; marking = held m } → ended_numbers o ≡ replay_told a → Ended s h ts m₀ m o
  ended o e told =
      (told ∙ ap (λ (R : Replay). replay_told R.answer) (sym e), record { long = u.long; at = λ p. ap (λ (R : Replay). R.marking p) (sym e) })

  -- no firing is left
  pub ended-fired : length ts ≤ k → Ended s h ts m₀ m Fired
  ended-fired l = ended Fired (sym u.same ∙ replay-end (net_from s h) ts k (held m) l) refl

  module _ (l : k < length ts) where
    -- the lowest place that is short is p, by n tokens
    pub ended-short : {p n : ℕ} → ShortAt (net_from s h) (get_or ts k 0) (held m) p n → {amount : ℕ} → amount ≡ n → Ended s h ts m₀ m (Short k p amount)
    ended-short {p} {n} w {amount} e =
        ended (Short k p amount) (sym u.same ∙ replay-short (net_from s h) ts k (held m) l p n w) (ap (λ (i : ℕ). ended_numbers (Short k p i)) e)

    -- every input arc was looked at, and no place is short
    module _ {from middle j last need : ℕ} (c : Covered s h (get_or ts k 0) from middle m j last need) (all : middle ≤ j) where
      pub firable : Firable s h (get_or ts k 0) m
      firable = record { known = known u l; supplied = supplied c all; low = λ p. omega (arith, u.low p, u.within, u.listed.short); caps = u.caps }

      pub fired_plain : {table m₁ m' : List ℕ} → Plain s h table m₁ → Holds m m' (fire (net_from s h) (get_or ts k 0) (held m)) → Underway s h ts m₀ m' (k + 1)
      fired_plain r f =
          let able = uncapped_enabled (net_from s h) r.uncapped (get_or ts k 0) (held m) (unfold Supplied in λ p u. supplied c all p) in
          fired_on_lem u l r.ready.sound r.ready.bytes able f

    -- and the firing is done, within the caps
    module _ {m' : List ℕ} where
      pub fired_capped : Filled (net_from s h) (get_or ts k 0) m m' None → Sound s h → Bytes s → Underway s h ts m₀ m' (k + 1)
      fired_capped x w b = fired_on_lem u l w b x.0 x.1

      -- or it would leave the place p above its cap: then the marking is the one before
      pub ended-full : (e : Excess) → Filled (net_from s h) (get_or ts k 0) m m' (Some e) → Ended s h ts m₀ m' (Full k e.place e.tokens)
      ended-full e x =
          subst⁻¹ (λ (m₁ : List ℕ). Ended s h ts m₀ m₁ (Full k e.place e.tokens)) x.1
          (ended (Full k e.place e.tokens) (sym u.same ∙ replay-full (net_from s h) ts k (held m) l e.place e.tokens x.0) refl)
