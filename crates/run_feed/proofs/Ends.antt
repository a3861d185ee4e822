-- The two ends of going back: at first nothing is chosen and W is the criterion; at last the sets are those of the run cut, and the entries of `last` tell the chosen positions.
use Prim.Native.Nat.{ℕ, ◌≤◌, ◌<◌}
use mathlib.Core.Bool.{Bool, true, false, ◌||◌}
use mathlib.Core.List.{List, []}
use mathlib.Core.Path.{◌≡◌, sym, ap, ◌∙◌}
use native.Mathlib.Omega.{arith}
use native.Mathlib.Nat.{zero-add}
use lib.Dec.{ltb}
use lib.ListN.{length, get_or, drop}
use Rattle.net.specs.Numbers.{among, selected, Rising}
use Rattle.net.specs.Slice.{keeping}
use Rattle.net.specs.Guarantee.{PlanFires}
use Rattle.net.specs.Run.{Fed, fed, fired_at, run_cut}
use Rattle.net.proofs.Numbers.{fails, holds, rising_selected, selected-same}
use Rattle.net.proofs.Feeding.{Feeding, feed, upto, chosen_at, chosen-below}
use Rattle.net.proofs.Run.{drop_all, fed-is, run-places_rise, run-places_below, chosen-upto}
use Rattle.file.specs.Layout.{net_from}
use Rattle.file_header.specs.declared.Header.{Header}
use Rattle.sets.specs.Member.{member}
use Rattle.run_feed.specs.Back.{Known, Entered, end_of, Back}

-- ---- at first

module _ (s : List ℕ) (h : Header) (Q ts : List ℕ) (P₀ F₀ P F C L : List ℕ) (none : (p : ℕ) → member P₀ p ≡ false) (none_drawn : (t : ℕ) → get_or F₀ t 0 ≡ 0) (none_chosen : (t : ℕ) → member C t ≡ false)
    (none_last : (t : ℕ) → get_or L t 0 ≡ 0) (e : Entered s h (λ k. among k Q) L P₀ F₀ P F) where
  start : feed (net_from s h) Q (length ts) (drop (length ts) ts) ≡ record { places = Q; chosen = []; positions = [] }
  unfolding feed
  start = ap (feed (net_from s h) Q (length ts)) (drop_all ts)

  pub begun : length C ≡ 16 → h.transitions ≤ length F₀ → h.transitions ≤ length L → Back s h Q ts (length ts) 0 P F C L
  unfolding among upto
  begun long first_long last_long = record {
    within = omega arith;
    ended = ap (λ (r : Feeding). end_of r.positions) (sym start);
    places_are = λ p. e.kept p ∙ ap (λ (b : Bool). b || among p Q) (none p) ∙ ap (λ (r : Feeding). among p r.places) (sym start);
    chosen_are = λ t. none_chosen t ∙ ap (λ (r : Feeding). among t r.chosen) (sym start);
    last_are = λ t. none_last t ∙ ap (λ (r : Feeding). upto (λ i. get_or ts i 0) r.positions t) (sym start);
    raisers = e.raisers (record {
      raise = λ t m. absurd (fails _ (ap (λ (n : ℕ). ltb 0 n || ltb 0 (get_or L t 0)) (none_drawn t) ∙ ap (ltb 0) (none_last t)) m);
      there = λ t p m. absurd (fails _ (none p) m);
      starts = λ t m. absurd (fails _ (ap (ltb 0) (none_drawn t)) m);
    });
    inputs = λ t p m. absurd (fails _ (none_chosen t) m);
    places_long = e.places_long;
    chosen_long = long;
    first_long = omega (arith, first_long, e.first_long);
    last_long = last_long;
  }

-- ---- at last

module _ (s : List ℕ) (h : Header) (Q : List ℕ) (known : Known h Q) (rise : Rising Q) (ts : List ℕ) (f : PlanFires (net_from s h) ts) (end : ℕ) (P F C L : List ℕ) (x : Back s h Q ts 0 end P F C L) where
  places_are : (p : ℕ) → member P p ≡ among p (fed (net_from s h) Q ts).places
  places_are p = x.places_are p ∙ ap (λ (r : Fed). among p r.places) (sym (fed-is (net_from s h) Q known ts f))

  chosen_are : (t : ℕ) → member C t ≡ among t (fired_at ts (fed (net_from s h) Q ts).positions)
  unfolding fired_at
  chosen_are t =
      x.chosen_are t ∙ ap (among t) (chosen_at (net_from s h) Q known (λ i. get_or ts i 0) 0 ts (λ k l. ap (λ (j : ℕ). get_or ts j 0) (zero-add k)))
      ∙ ap (λ (r : Fed). among t (fired_at ts r.positions)) (sym (fed-is (net_from s h) Q known ts f))

  -- the sets lie in the plan
  pub finished_places : (p : ℕ) → member P p ≡ true → p < h.places
  finished_places p e = run-places_below (net_from s h) Q known ts f p (holds _ (sym (places_are p) ∙ e))

  pub finished_transitions : (t : ℕ) → member C t ≡ true → t < h.transitions
  unfolding PlanFires
  finished_transitions t e = chosen-below (net_from s h) Q known 0 ts (net_from s h).marking f t (holds _ (sym (x.chosen_are t) ∙ e))

  -- their slice is the run cut
  pub finished_slice : keeping (net_from s h) (selected (member P) 0 h.places) (selected (member C) 0 h.transitions) ≡ run_cut (net_from s h) Q ts
  unfolding run_cut
  finished_slice =
      let N = net_from s h in
      let W = (fed N Q ts).places in
      let ps : selected (member P) 0 h.places ≡ W = selected-same (member P) (λ p. among p W) 0 h.places (λ p l u. places_are p)
      ∙ rising_selected W 0 h.places (run-places_rise N Q known ts f rise) (λ p m. (omega arith, omega (arith, run-places_below N Q known ts f p m))) in
      let ts' = selected-same (member C) (λ t. among t (fired_at ts (fed N Q ts).positions)) 0 h.transitions (λ t l u. chosen_are t) in
      λ i. keeping N (ps i) (ts' i)

  -- firing i is chosen exactly if i is below the entry of its transition
  pub finished_positions : (fed (net_from s h) Q ts).positions ≡ selected (λ i. ltb i (get_or L (get_or ts i 0) 0)) 0 (length ts)
  finished_positions =
      let N = net_from s h in
      chosen-upto N Q known ts f
      ∙ selected-same (λ i. ltb i (upto (λ k. get_or ts k 0) (fed N Q ts).positions (get_or ts i 0))) (λ i. ltb i (get_or L (get_or ts i 0) 0)) 0 (length ts)
      (λ i l u. ap (ltb i) (ap (λ (r : Fed). upto (λ k. get_or ts k 0) r.positions (get_or ts i 0)) (fed-is N Q known ts f) ∙ sym (x.last_are (get_or ts i 0))))

  -- the end is that of the chosen positions
  pub finished_end : end ≡ end_of (fed (net_from s h) Q ts).positions
  finished_end = x.ended ∙ ap (λ (r : Fed). end_of r.positions) (sym (fed-is (net_from s h) Q known ts f))
