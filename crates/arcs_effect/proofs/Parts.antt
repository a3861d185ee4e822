-- Where the arcs of a transition stand, by the two places where the arcs split.
use Prim.Native.Nat.{ℕ, zero, suc, ◌+◌, ◌-◌, ◌*◌, ◌≤◌, ◌<◌}
use mathlib.Core.Path.{◌≡◌, refl, sym, ap, ap₂, ◌∙◌, subst}
use mathlib.Core.List.{List, [], ◌∷◌}
use native.Mathlib.Omega.{arith}
use lib.IntN.{pos, ◌-ℤ◌}
use lib.ListN.{length, take, drop, length-take, length-drop}
use borrow.Author.Tests.{lt-ltb, le-ltb, ne_eqb, eq-eqb}
use Rattle.net.specs.Net.{weight_on, input, output, effect}
use Rattle.net.specs.Slice.{arcs_of}
use Rattle.net.specs.declared.Arc.{Arc}
use Rattle.net.proofs.Numbers.{by_order}
use Rattle.file_arcs.specs.Layout.{arc_at, arcs_from}
use Rattle.file.specs.Layout.{net_from}
use Rattle.file_arcs.specs.Facts.{InRange}
use Rattle.file.specs.Facts.{Sound}
use Rattle.file_header.specs.declared.Header.{Header}
use Rattle.arcs_starts.specs.Table.{slot_of, slot_at, number_below, Split}
use Rattle.file_arcs.proofs.Rows.{key-le}
use Rattle.file.proofs.Rows.{good_at}
use Rattle.arcs_starts.proofs.Reached.{number_below_lem}
use Rattle.arcs_column.specs.Gain.{sum_to}
use Rattle.arcs_column.proofs.Weights.{weight_run, rising}
use Rattle.promise.specs.Firing.{before, run_start, start_if}
use Rattle.arcs_effect.specs.Runs.{run_of, start_of, PartOf, Within}

-- the arcs of lower transitions are those with a slot below 2t
before-number : (P T t : ℕ) (l : List Arc) → InRange P T l → before t l ≡ number_below (2 * t) l
unfolding before number_below
before-number P T t [] r = refl
before-number P T t (a ∷ l) r =
    let d = r.0.direction in
    by_order a.transition t
    (λ h. rw (lt-ltb a.transition t h, lt-ltb (slot_of a) (2 * t) (omega arith)) (omega (arith, before-number P T t l r.1)))
    (λ h. rw (le-ltb a.transition t (omega arith), le-ltb (slot_of a) (2 * t) (omega arith)) (omega (arith, before-number P T t l r.1)))
    (λ h. rw (le-ltb a.transition t (omega arith), le-ltb (slot_of a) (2 * t) (omega arith)) (omega (arith, before-number P T t l r.1)))

-- and those of t have one of the next two
run-number : (P T t : ℕ) (l : List Arc) → InRange P T l → number_below (2 * t + 2) l ≡ number_below (2 * t) l + length (arcs_of t l)
unfolding arcs_of number_below
run-number P T t [] r = refl
run-number P T t (a ∷ l) r =
    let d = r.0.direction in
    by_order a.transition t
    (λ h. rw (ne_eqb a.transition t (λ e. omega arith), lt-ltb (slot_of a) (2 * t + 2) (omega arith), lt-ltb (slot_of a) (2 * t) (omega arith), arcs_of) (omega (arith, run-number P T t l r.1)))
    (λ h. rw (eq-eqb a.transition t h, lt-ltb (slot_of a) (2 * t + 2) (omega arith), le-ltb (slot_of a) (2 * t) (omega arith), arcs_of) (omega (arith, run-number P T t l r.1)))
    (λ h. rw (ne_eqb a.transition t (λ e. omega arith), le-ltb (slot_of a) (2 * t + 2) (omega arith), le-ltb (slot_of a) (2 * t) (omega arith), arcs_of) (omega (arith, run-number P T t l r.1)))

no_run_of : (s : List ℕ) (h : Header) (t : ℕ) → h.transitions ≤ t → run_of s h t ≡ []
unfolding run_of
no_run_of s h t l = rw (le-ltb t h.transitions l)

module _ (s : List ℕ) (h : Header) (w : Sound s h) (t : ℕ) where
  abbrev Cuts : ℕ → ℕ → Type 0
  Cuts k r = Split s h.arcstart h.arcs k r

  ways : (i : ℕ) → i < h.arcs → (arc_at s (h.arcstart + 8 * i)).direction ≤ 1
  ways i l = (good_at s h w i l).direction

  -- arcs with the same slot are in order by their places
  places_rise : (k i j : ℕ) → i ≤ j → j < h.arcs → slot_at s h.arcstart i ≡ k → slot_at s h.arcstart j ≡ k → (arc_at s (h.arcstart + 8 * i)).place ≤ (arc_at s (h.arcstart + 8 * j)).place
  unfolding slot_at
  places_rise k i j l m e f = omega (arith, e, f, key-le s h.arcstart 0 h.arcs i j w.order l m)

  module _ (a b c : ℕ) (low : Cuts (2 * t) a) (middle : Cuts (2 * t + 1) b) (high : Cuts (2 * t + 2) c) where
    low₀ : Cuts (2 * t + 0) a
    low₀ = subst (λ (k : ℕ). Cuts k a) (let e : 2 * t ≡ 2 * t + 0 = omega arith in e) low

    middle₀ : Cuts (2 * t + 0 + 1) b
    middle₀ = subst (λ (k : ℕ). Cuts k b) (let e : 2 * t + 1 ≡ 2 * t + 0 + 1 = omega arith in e) middle

    high₀ : Cuts (2 * t + 1 + 1) c
    high₀ = subst (λ (k : ℕ). Cuts k c) (let e : 2 * t + 2 ≡ 2 * t + 1 + 1 = omega arith in e) high

    pub inputs_in : Within s h.arcstart a b
    inputs_in = record {
      rising = rising 0 0 t s h.arcstart h.arcs a b (omega arith) ways low₀ middle₀;
      few = omega (arith, middle.within, w.placed.arcs);
      fit = omega (arith, middle.within, w.placed.arcs_fit, w.placed.origins_fit);
      order = λ i j f l m.
          places_rise (2 * t) i j l (omega (arith, m, middle.within)) (omega (arith, low.above i f (omega (arith, l, m, middle.within)), middle.below i (omega (arith, l, m))))
          (omega (arith, low.above j (omega (arith, f, l)) (omega (arith, m, middle.within)), middle.below j m));
    }

    pub outputs_in : Within s h.arcstart b c
    outputs_in = record {
      rising = rising 1 0 t s h.arcstart h.arcs b c (omega arith) ways middle high₀;
      few = omega (arith, high.within, w.placed.arcs);
      fit = omega (arith, high.within, w.placed.arcs_fit, w.placed.origins_fit);
      order = λ i j f l m.
          places_rise (2 * t + 1) i j l (omega (arith, m, high.within)) (omega (arith, middle.above i f (omega (arith, l, m, high.within)), high.below i (omega (arith, l, m))))
          (omega (arith, middle.above j (omega (arith, f, l)) (omega (arith, m, high.within)), high.below j m));
    }

    -- the two sums are in(p,t) and out(p,t)
    pub effect_is : (p i o : ℕ) → sum_to s h.arcstart p a + i ≡ sum_to s h.arcstart p b → sum_to s h.arcstart p b + o ≡ sum_to s h.arcstart p c
        → pos o -ℤ pos i ≡ effect (net_from s h) p t
    unfolding effect input output
    effect_is p i o e f =
        let x : o ≡ weight_on 1 p t (arcs_from s h.arcstart h.arcs) = omega (arith, f, weight_run 1 p t s h.arcstart h.arcs b c (omega arith) ways middle high₀) in
        let y : i ≡ weight_on 0 p t (arcs_from s h.arcstart h.arcs) = omega (arith, e, weight_run 0 p t s h.arcstart h.arcs a b (omega arith) ways low₀ middle₀) in
        ap₂ (λ (m n : ℕ). pos m -ℤ pos n) x y

  abbrev arcs : List Arc
  arcs = (net_from s h).arcs

  -- a number that is unknown has no run
  pub part-unknown : h.transitions ≤ t → PartOf s h t (record { start = 0; length = 0 })
  unfolding start_of
  part-unknown l =
      let e = no_run_of s h t l in
      record {
        start = sym (ap (λ (r : List ℕ). start_if (length r) (run_start s h t)) e);
        long = sym (ap length e);
        part = sym e;
        fits = omega arith;
        short = w.placed.short;
      }

  module _ (a e : ℕ) (known : t < h.transitions) (low : Cuts (2 * t) a) (high : Cuts (2 * t + 2) e) where
    starts-at : before t arcs ≡ a
    starts-at = before-number h.places h.transitions t arcs w.arcs ∙ number_below_lem s h.arcstart h.arcs (2 * t) a low

    many : a + length (arcs_of t arcs) ≡ e
    many =
        omega (
          arith,
          number_below_lem s h.arcstart h.arcs (2 * t) a low,
          number_below_lem s h.arcstart h.arcs (2 * t + 2) e high,
          run-number h.places h.transitions t arcs w.arcs,
        )

    is_run : run_of s h t ≡ take (8 * (e - a)) (drop (h.arcstart + 8 * a) s)
    unfolding run_of
    is_run =
        let n : 8 * length (arcs_of t arcs) ≡ 8 * (e - a) = omega (arith, many) in
        let m : run_start s h t ≡ h.arcstart + 8 * a = omega (arith, starts-at) in
        rw (lt-ltb t h.transitions known, n, m)

    fitting : h.arcstart + 8 * a + 8 * (e - a) ≤ length s
    fitting = omega (arith, high.within, many, w.placed.arcs_fit, w.placed.origins_fit)

    run_long : length (run_of s h t) ≡ 8 * (e - a)
    run_long =
        ap length is_run
        ∙ (let f = fitting in omega (arith, length-take (8 * (e - a)) (drop (h.arcstart + 8 * a) s), length-drop (h.arcstart + 8 * a) s))

    pub part_none : e ≤ a → PartOf s h t (record { start = 0; length = 0 })
    unfolding start_of
    part_none l =
        let z : length (run_of s h t) ≡ 0 = omega (arith, run_long) in
        record {
          start = rw z;
          long = sym z;
          part = sym (no_length (run_of s h t) z);
          fits = omega arith;
          short = w.placed.short;
        }
      where
        no_length : (l : List ℕ) → length l ≡ 0 → l ≡ []
        no_length [] e = refl
        no_length (x ∷ l) e = absurd (omega arith)

    pub part-some : a < e → PartOf s h t (record { start = h.arcstart + 8 * a; length = 8 * (e - a) })
    unfolding start_of
    part-some l = record {
      start = sym (some (length (run_of s h t)) (run_start s h t) (omega (arith, run_long)) ∙ (let m : run_start s h t ≡ h.arcstart + 8 * a = omega (arith, starts-at) in m));
      long = sym run_long;
      part = sym is_run;
      fits = fitting;
      short = w.placed.short;
    }
      where
        some : (n at : ℕ) → 0 < n → start_if n at ≡ at
        some zero at l = absurd (omega arith)
        some (suc n) at l = refl
