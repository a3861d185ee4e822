-- A replay, firing by firing.
use Prim.Native.Nat.{ℕ, suc, ◌+◌, ◌*◌, ◌<◌, ◌≤◌}
use mathlib.Core.Path.{◌≡◌, refl, ap, sym, subst, ◌∙◌, fun_ext}
use mathlib.Core.List.{List, ◌∷◌}
use native.Mathlib.Numerals.{add-one}
use native.Mathlib.Omega.{arith}
use lib.ListN.{length, get_or, drop, drop_of_length-le}
use lib.Seq.{drop-cons}
use Rattle.net.specs.Net.{Net, Marking, WithinCaps, Enabled, fired, short, full, output, fire, replay_from, ShortAt, FullAt}
use Rattle.net.proofs.Replay.{test_passes, test_short, test_full}
use Rattle.file_words.specs.Word.{Bytes}
use Rattle.file.specs.Layout.{net_from}
use Rattle.file.specs.Facts.{Sound}
use Rattle.file_header.specs.declared.Header.{Header}
use Rattle.file_arcs.proofs.Rows.{weight_le}
use Rattle.arcs_starts.specs.Table.{Split}
use Rattle.replay_steps.specs.Steps.{held, Ready, Holds, Listed, Underway}

module _ (N : Net) (i : ℕ) (M : Marking) (t : ℕ) (ts : List ℕ) where
  step_short : (p n : ℕ) → ShortAt N t M p n → replay_from N i M (t ∷ ts) ≡ record { answer = short i p n; marking = M }
  unfolding replay_from
  step_short p n w = rw (test_short N t M p n w, replay_from)

  step_full : (p n : ℕ) → FullAt N t M p n → replay_from N i M (t ∷ ts) ≡ record { answer = full i p n; marking = M }
  unfolding replay_from
  step_full p n w = rw (test_full N t M p n w, replay_from)

  step_on : Enabled N t M → replay_from N i M (t ∷ ts) ≡ replay_from N (suc i) (fire N t M) ts
  unfolding replay_from
  step_on en = rw (test_passes N t M en, replay_from)

module _ (N : Net) (ts : List ℕ) (k : ℕ) (M : Marking) where
  pub replay-end : length ts ≤ k → replay_from N k M (drop k ts) ≡ record { answer = fired; marking = M }
  unfolding replay_from
  replay-end l = rw (drop_of_length-le ts l)

  module _ (l : k < length ts) where
    pub replay-short : (p n : ℕ) → ShortAt N (get_or ts k 0) M p n → replay_from N k M (drop k ts) ≡ record { answer = short k p n; marking = M }
    replay-short p n w = rw (drop-cons ts k 0 l) (step_short N k M (get_or ts k 0) (drop (suc k) ts) p n w)

    pub replay-full : (p n : ℕ) → FullAt N (get_or ts k 0) M p n → replay_from N k M (drop k ts) ≡ record { answer = full k p n; marking = M }
    replay-full p n w = rw (drop-cons ts k 0 l) (step_full N k M (get_or ts k 0) (drop (suc k) ts) p n w)

    replay-on : Enabled N (get_or ts k 0) M → replay_from N k M (drop k ts) ≡ replay_from N (k + 1) (fire N (get_or ts k 0) M) (drop (k + 1) ts)
    replay-on u = rw (drop-cons ts k 0 l, add-one k) (step_on N k M (get_or ts k 0) (drop (suc k) ts) u)

-- where the arcs of a slot start, by the table
pub split_by : {s : List ℕ} {h : Header} {table m : List ℕ} → Ready s h table m → (k : ℕ) → k ≤ 2 * h.transitions → {b : ℕ} → b ≡ get_or table k 0 → Split s h.arcstart h.arcs k b
split_by {s} {h} r k l {b} e = subst (Split s h.arcstart h.arcs k) (sym e) (r.starts k l)

-- the transition listed at k has entries in the table
pub record Tabulated (h : Header) (table ts : List ℕ) (k : ℕ) : Type 0 where
  pub known : get_or ts k 0 < h.transitions
  pub few : h.transitions ≤ 1024
  pub long : 2 * h.transitions < length table

-- a list that holds a marking within the caps is within them
pub held-within : (N : Net) (M : Marking) → WithinCaps N M → {m m' : List ℕ} → Holds m m' M → WithinCaps N (held m')
unfolding WithinCaps
held-within N M w f p l c = omega (arith, f.at p, w p l c)

module _ {s : List ℕ} {h : Header} {ts m₀ : List ℕ} where
  pub underway_begin : Listed s h ts m₀ → Underway s h ts m₀ m₀ 0
  underway_begin listed = record { listed = listed; within = omega arith; long = refl; low = λ p. omega (arith, listed.low p); caps = listed.caps; same = refl }

  module _ {m : List ℕ} {k : ℕ} (u : Underway s h ts m₀ m k) where
    pub ready_still : {table : List ℕ} → Ready s h table m₀ → Ready s h table m
    ready_still r = record { sound = r.sound; bytes = r.bytes; long = r.long; starts = r.starts; places = u.long ∙ r.places }

    module _ (l : k < length ts) where
      pub known : get_or ts k 0 < h.transitions
      known = u.listed.known k l

      pub tabulated : {table m₁ : List ℕ} → Ready s h table m₁ → Tabulated h table ts k
      tabulated r = record { known = known; few = r.sound.placed.transitions; long = r.long }

      few : Bytes s → (p : ℕ) → output (net_from s h) p (get_or ts k 0) ≤ 65535 * h.arcs
      unfolding output
      few b p = weight_le 1 p (get_or ts k 0) s b h.arcstart h.arcs

      -- one firing more, of a transition that is enabled
      pub fired_on_lem : Sound s h → Bytes s → Enabled (net_from s h) (get_or ts k 0) (held m) → {m' : List ℕ} → Holds m m' (fire (net_from s h) (get_or ts k 0) (held m)) → Underway s h ts m₀ m' (k + 1)
      unfolding fire Enabled
      fired_on_lem w b enabled f = record {
        listed = u.listed;
        within = omega arith;
        long = f.long ∙ u.long;
        low = λ p. omega (arith, u.low p, f.at p, few b p, w.placed.arcs);
        caps = held-within (net_from s h) (fire (net_from s h) (get_or ts k 0) (held m)) enabled.1 f;
        same =
            ap (λ (M : Marking). replay_from (net_from s h) (k + 1) M (drop (k + 1) ts)) (fun_ext f.at)
            ∙ sym (replay-on (net_from s h) ts k (held m) l enabled)
            ∙ u.same;
      }
