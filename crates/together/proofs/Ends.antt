-- The input arcs of a transition, by where they stand in a file that was read; the answer and what is left.
use Prim.Native.Nat.{ℕ, suc, ◌+◌, ◌*◌, ◌≤◌, ◌<◌}
use mathlib.Core.List.{List}
use mathlib.Core.Path.{◌≡◌, refl, sym, ap, subst, ◌∙◌}
use native.Mathlib.Omega.{arith}
use lib.ListN.{length, get_or}
use Rattle.net.specs.Net.{Marking, Net, input, tokens}
use Rattle.net.specs.Together.{Takings, times, unlimited, together, remainder, Takable, NoInputs}
use Rattle.net.proofs.Markings.{tokens-are}
use Rattle.net.proofs.Together as law
use Rattle.file.specs.Layout.{net_from}
use Rattle.file.specs.Facts.{Sound}
use Rattle.file_header.specs.declared.Header.{Header}
use Rattle.file_arcs.proofs.Rows.{key-le}
use Rattle.file.proofs.Rows.{good_at}
use Rattle.promise.specs.Together.{standing, TogetherAnswer, together_told}
use Rattle.arcs_starts.specs.Table.{slot_at, Split}
use Rattle.arcs_column.specs.Ways.{transition_at, direction_at}
use Rattle.arcs_column.proofs.Sums.{sum_more}
use Rattle.arcs_column.proofs.Weights.{weight_run}
use Rattle.together.specs.Told.{taken_numbers}
use Rattle.together.specs.Inputs.{drawn, OneWay, MostTimes, TakesTimes}
use Rattle.together.specs.declared.Together.TheVariants.{Times, Unlimited}

-- the inputs of t are the arcs from..to
pub record Found (s : List ℕ) (h : Header) (t from to : ℕ) : Type 0 where
  pub sound : Sound s h
  pub first : Split s h.arcstart h.arcs (2 * t) from
  pub last : Split s h.arcstart h.arcs (2 * t + 1) to

module _ {s : List ℕ} {h : Header} {t from to : ℕ} (f : Found s h t from to) where
  abbrev N : Net
  N = net_from s h

  abbrev Taken : ℕ → ℕ
  Taken p = drawn s h.arcstart from to p

  abbrev Parts : ℕ → ℕ → Type 0
  Parts k r = Split s h.arcstart h.arcs k r

  first₀ : Parts (2 * t + 0) from
  first₀ = subst (λ (k : ℕ). Parts k from) (let e : 2 * t ≡ 2 * t + 0 = omega arith in e) f.first

  last₀ : Parts (2 * t + 0 + 1) to
  last₀ = subst (λ (k : ℕ). Parts k to) (let e : 2 * t + 1 ≡ 2 * t + 0 + 1 = omega arith in e) f.last

  ways : (i : ℕ) → i < h.arcs → direction_at s h.arcstart i ≤ 1
  ways i l = (good_at s h f.sound i l).direction

  -- what they take is in(p,t)
  pub drawn-is : (p : ℕ) → Taken p ≡ input N p t
  unfolding input
  drawn-is p = omega (arith, weight_run 0 p t s h.arcstart h.arcs from to (omega arith) ways first₀ last₀)

  times_is : (k p : ℕ) → k * Taken p ≡ k * input N p t
  times_is k p = ap (λ (n : ℕ). k * n) (drawn-is p)

  -- the arcs from `from` to `to` are inputs of t
  of_t : (i : ℕ) → from ≤ i → i < to → (transition_at s h.arcstart i ≡ t) × (direction_at s h.arcstart i ≡ 0)
  unfolding slot_at
  of_t i a b =
      let k : i < h.arcs = omega (arith, f.last.within) in
      let d = ways i k in
      (omega (arith, f.first.above i a k, f.last.below i b), omega (arith, f.first.above i a k, f.last.below i b))

  one-way_by : from < to → OneWay s h.arcstart from to h.places
  one-way_by l =
      let n = f.last.within in
      record {
        run = record {
          rising = omega arith;
          fit = omega (arith, f.sound.placed.arcs_fit, f.sound.placed.origins_fit);
          short = f.sound.placed.short;
          places = λ i a. (good_at s h f.sound i (omega arith)).place;
        };
        few = omega (arith, f.sound.placed.arcs);
        transitions = λ i a b. (of_t i a b).0 ∙ sym (of_t from (omega arith) l).0;
        directions = λ i a b. (of_t i a b).1 ∙ sym (of_t from (omega arith) l).1;
        order = λ i j a b c.
            let x = of_t i a (omega arith) in
            let y = of_t j (omega arith) c in
            omega (arith, x.0, x.1, y.0, y.1, key-le s h.arcstart 0 h.arcs i j f.sound.order b (omega arith));
        weights = λ i a b. (good_at s h f.sound i (omega arith)).weight;
      }

  pub one_way : (m : List ℕ) → length m ≡ h.places → from < to → OneWay s h.arcstart from to (length m)
  one_way m e l = subst (λ (P : ℕ). OneWay s h.arcstart from to P) (sym e) (one-way_by l)

  -- ---- the answer, and what is left of m

  module _ (m : List ℕ) (places : length m ≡ h.places) where
    abbrev M : Marking
    M = standing m

    abbrev Ends : TogetherAnswer → List ℕ → Type 0
    Ends a m' = (a ≡ together_told (together N t M)) × (m' ≡ tokens N (remainder N t M (together N t M)))

    by : (x : Takings) → together N t M ≡ x → {m' : List ℕ} → length m' ≡ h.places → ((p : ℕ) → p < h.places → get_or m' p 0 ≡ remainder N t M x p) → Ends (together_told x) m'
    by x e long at = (
      ap together_told (sym e),
      tokens-are N (remainder N t M (together N t M)) _ long (λ p l. at p l ∙ ap (λ (y : Takings). remainder N t M y p) (sym e)),
    )

    pub no_inputs : to ≤ from → Ends (taken_numbers Unlimited) m
    unfolding NoInputs remainder
    no_inputs l = by unlimited (law.is_unlimited N t M (λ p u. omega (arith, drawn-is p, sum_more s h.arcstart p to from l))) places (λ p u. refl)

    pub most : {k : ℕ} {m' : List ℕ} → MostTimes s h.arcstart from to m k → TakesTimes s h.arcstart from to k m m' → Ends (taken_numbers (Times k)) m'
    unfolding Takable remainder
    most {k} x y =
        let z = x.no_more in
        by (times k) (law.is_times N t M k (λ p l. omega (arith, x.fits p, times_is k p)) (z.0, omega (arith, z.1, places), omega (arith, z.2, times_is (suc k) z.0)))
        (y.long ∙ places) (λ p l. omega (arith, y.at p, times_is k p))
