-- Rule 4 of one transition: its two runs.
use Prim.Native.Nat.{ℕ, suc, ◌+◌, ◌-◌, ◌*◌, ◌≤◌, ◌<◌}
use mathlib.Core.Bool.{Bool, true, false, not}
use mathlib.Core.Path.{◌≡◌, sym, ap, ◌∙◌}
use mathlib.Core.List.{List}
use native.Mathlib.Omega.{arith}
use lib.ListN.{length, get_or}
use Rattle.net.specs.Numbers.{among, position}
use Rattle.net.specs.Slice.{slice_run, plan_run}
use Rattle.net.specs.Checker.{breaks, rule4, same_arcs}
use Rattle.net.proofs.Numbers.{holds, position-lt}
use Rattle.file_arcs.specs.Layout.{arcs_from}
use Rattle.file.specs.Layout.{net_from, slice_from}
use Rattle.file_header.specs.declared.Header.{Header}
use Rattle.rules_tables.specs.Matched.{Starts, Matched}
use Rattle.numbering.proofs.Lookup.{left_out, is_kept, own-number}
use Rattle.rules_tables.proofs.Runs.{entry_most, entries-rise, run-own, run_is}
use Rattle.rules_arcs.specs.Links.{Run, Walk, Against, arcs_left, kept}
use Rattle.file.proofs.Rows.{length-words, good_at}

-- what the walk of t's two runs asks, and what its answer says
pub record Ready (plan : List ℕ) (hp : Header) (slice : List ℕ) (hs : Header) (ownp : List ℕ) (t own from to first upto : ℕ) : Type 0 where
  pub run : Run plan hp.arcstart from to (length ownp)
  pub walk : (i : ℕ) → from ≤ i → i < to → Walk plan (hp.arcstart + 8 * i) slice hs ownp (own - 1)
  pub against : Against slice hs first upto ownp
  pub answer : (r : Bool) → r ≡ not (same_arcs (arcs_left slice hs first upto) (kept slice hs (arcs_from plan (hp.arcstart + 8 * from) (to - from))))
      → r ≡ breaks (rule4 (net_from plan hp) (slice_from slice hs)) t

module _ (plan : List ℕ) (hp : Header) (table slice : List ℕ) (hs : Header) (runs ownp ownt : List ℕ) (m : Matched plan hp table slice hs ownp ownt) (st : Starts slice hs runs) (t : ℕ) (l : t < hp.transitions) (own : ℕ) (e : own ≡ get_or ownt t 0) where
  -- a transition left out
  pub differs_not : own ≡ 0 → false ≡ breaks (rule4 (net_from plan hp) (slice_from slice hs)) t
  unfolding breaks rule4
  differs_not z = rw (left_out (slice_from slice hs).transition_origins ownt m.transitions t (omega (arith, m.transitions_reached)) (sym e ∙ z))

  module _ (o : own ≡ 0 → ⊥) where
    is_own : own ≡ suc (position t (slice_from slice hs).transition_origins)
    is_own = e ∙ own-number (slice_from slice hs).transition_origins ownt m.transitions t (omega (arith, m.transitions_reached)) (λ z. o (e ∙ z))

    is_held : among t (slice_from slice hs).transition_origins ≡ true
    is_held = is_kept (slice_from slice hs).transition_origins ownt m.transitions t (omega (arith, m.transitions_reached)) (λ z. o (e ∙ z))

    pub own-low : own ≤ hs.transitions
    own-low = omega (arith, is_own, position-lt t (slice_from slice hs).transition_origins (holds _ is_held), length-words slice (hs.originstart + 2 * hs.places) hs.transitions)

    module _ (from to first upto : ℕ) (ef : from ≡ get_or table (2 * t) 0) (et : to ≡ get_or table (2 * t + 2) 0) (eb : first ≡ get_or runs (2 * own - 2) 0) (eu : upto ≡ get_or runs (2 * own) 0) where
      plan_run_lem : Run plan hp.arcstart from to (length ownp)
      plan_run_lem =
          let p = m.planned.placed in
          let most = entry_most plan hp table m.planned m.starts (2 * t + 2) (omega arith) in
          record {
            rising = omega (arith, entries-rise plan hp table m.planned m.starts (2 * t) (2 * t + 2) (omega arith) (omega arith));
            fit = omega (arith, p.arcs_fit, p.origins_fit);
            short = p.short;
            reached = λ i a. omega (arith, m.places_reached, (good_at plan hp m.planned i (omega arith)).place);
          }

      plan_walk : (i : ℕ) → from ≤ i → i < to → Walk plan (hp.arcstart + 8 * i) slice hs ownp (own - 1)
      plan_walk i a b =
          let own-t = run-own plan hp table m.planned m.starts t l i (omega arith) (omega arith) in
          let r = plan_run_lem in
          record {
            fit = omega (arith, r.fit);
            reached = r.reached i b;
            zero = m.planned.zeros i (omega (arith, entry_most plan hp table m.planned m.starts (2 * t + 2) (omega arith)));
            held = ap (λ (u : ℕ). among u (slice_from slice hs).transition_origins) own-t ∙ is_held;
            number = ap (λ (u : ℕ). position u (slice_from slice hs).transition_origins) own-t ∙ (let z : position t (slice_from slice hs).transition_origins ≡ own - 1 = omega (arith, is_own) in z);
            low = omega (arith, own-low, m.sliced.placed.transitions);
          }

      slice_run_lem : Against slice hs first upto ownp
      slice_run_lem = record {
        sliced = m.sliced;
        places = m.places;
        rising = omega (arith, entries-rise slice hs runs m.sliced st (2 * own - 2) (2 * own) (omega arith) (omega (arith, own-low)));
        within = omega (arith, entry_most slice hs runs m.sliced st (2 * own) (omega (arith, own-low)));
      }

      slice_arcs : slice_run (slice_from slice hs) t ≡ arcs_left slice hs first upto
      unfolding slice_run
      slice_arcs =
          let n = position t (slice_from slice hs).transition_origins in
          let low : get_or runs (2 * n) 0 ≡ first = ap (λ (k : ℕ). get_or runs k 0) (let z : 2 * n ≡ 2 * own - 2 = omega (arith, is_own) in z) ∙ sym eb in
          let high : get_or runs (2 * n + 2) 0 ≡ upto = ap (λ (k : ℕ). get_or runs k 0) (let z : 2 * n + 2 ≡ 2 * own = omega (arith, is_own) in z) ∙ sym eu in
          run_is slice hs runs m.sliced st n (omega (arith, is_own, own-low))
          ∙ ap (λ (k : ℕ). arcs_left slice hs k (get_or runs (2 * n + 2) 0)) low
          ∙ ap (arcs_left slice hs first) high

      plan_arcs : plan_run (net_from plan hp) (slice_from slice hs) t ≡ kept slice hs (arcs_from plan (hp.arcstart + 8 * from) (to - from))
      unfolding plan_run
      plan_arcs =
          ap (kept slice hs) (run_is plan hp table m.planned m.starts t l)
          ∙ ap (λ (k : ℕ). kept slice hs (arcs_from plan (hp.arcstart + 8 * k) (get_or table (2 * t + 2) 0 - k))) (sym ef)
          ∙ ap (λ (k : ℕ). kept slice hs (arcs_from plan (hp.arcstart + 8 * from) (k - from))) (sym et)

      differs_is : (r : Bool) → r ≡ not (same_arcs (arcs_left slice hs first upto) (kept slice hs (arcs_from plan (hp.arcstart + 8 * from) (to - from))))
          → r ≡ breaks (rule4 (net_from plan hp) (slice_from slice hs)) t
      unfolding breaks rule4
      differs_is r q = rw is_held (q ∙ sym (rw (slice_arcs, plan_arcs)))

      pub ready : Ready plan hp slice hs ownp t own from to first upto
      ready = record { run = plan_run_lem; walk = plan_walk; against = slice_run_lem; answer = differs_is }
