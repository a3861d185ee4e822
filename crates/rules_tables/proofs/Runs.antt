-- A transition's arcs stand in a row, between two entries of the table of starts.
use Prim.Native.Nat.{ℕ, zero, suc, ◌+◌, ◌-◌, ◌*◌, ◌≤◌, ◌<◌}
use mathlib.Core.Bool.{true, false}
use mathlib.Core.Path.{◌≡◌, refl, sym, ap, ◌∙◌}
use mathlib.Core.List.{List, [], ◌∷◌, ◌++◌, append-nil}
use native.Mathlib.Omega.{arith}
use native.Mathlib.Decide.{dec_lt}
use lib.Dec.{eqb}
use lib.ListN.{get_or}
use borrow.Author.Tests.{eq-eqb, ne_eqb, eqb-true}
use Rattle.net.specs.Net.{weight_on}
use Rattle.net.specs.Slice.{arcs_of}
use Rattle.net.specs.declared.Arc.{Arc}
use Rattle.net.proofs.Numbers.{by_cases}
use Rattle.net.proofs.Weights.{arcs_of-append}
use Rattle.file_arcs.specs.Layout.{arc_at, arcs_from}
use Rattle.file.specs.Layout.{net_from}
use Rattle.file.specs.Facts.{Sound}
use Rattle.file_header.specs.declared.Header.{Header}
use Rattle.arcs_starts.specs.Table.{slot_at, Split}
use Rattle.file_arcs.proofs.Rows.{arcs_append, first, later}
use Rattle.file.proofs.Rows.{good_at}
use Rattle.arcs_column.specs.Gain.{sum_to, part}
use Rattle.arcs_column.proofs.Sums.{sum_next, sum_more, part-here}
use Rattle.arcs_column.proofs.Weights.{weight_run}
use Rattle.rules_tables.specs.Matched.{Starts}

-- ---- rows of arcs

-- where no arc is of transition t, and where each is
arcs_none : (t : ℕ) (s : List ℕ) (at n : ℕ) → ((i : ℕ) → i < n → (arc_at s (at + 8 * i)).transition ≡ t → ⊥) → arcs_of t (arcs_from s at n) ≡ []
unfolding arcs_from arcs_of
arcs_none t s at zero h = refl
arcs_none t s at (suc n) h =
    let e : eqb (arc_at s at).transition t ≡ false = ne_eqb (arc_at s at).transition t (λ q. h 0 (omega arith) (ap (λ (a : Arc). a.transition) (first s at) ∙ q)) in
    rw (e, arcs_of) (arcs_none t s (at + 8) n (λ i l q. h (suc i) (omega arith) (ap (λ (a : Arc). a.transition) (later s at i) ∙ q)))

arcs_all : (t : ℕ) (s : List ℕ) (at n : ℕ) → ((i : ℕ) → i < n → (arc_at s (at + 8 * i)).transition ≡ t) → arcs_of t (arcs_from s at n) ≡ arcs_from s at n
unfolding arcs_from arcs_of
arcs_all t s at zero h = refl
arcs_all t s at (suc n) h =
    let e : eqb (arc_at s at).transition t ≡ true = eq-eqb (arc_at s at).transition t (sym (ap (λ (a : Arc). a.transition) (first s at)) ∙ h 0 (omega arith)) in
    rw (e, arcs_of) (ap (λ (l : List Arc). arc_at s at ∷ l) (arcs_all t s (at + 8) n (λ i l. sym (ap (λ (a : Arc). a.transition) (later s at i)) ∙ h (suc i) (omega arith))))

-- the arcs in the middle of a row are those of t
between : (t : ℕ) (s : List ℕ) (at b m r : ℕ)
    → ((i : ℕ) → i < b → (arc_at s (at + 8 * i)).transition ≡ t → ⊥)
    → ((i : ℕ) → i < m → (arc_at s (at + 8 * b + 8 * i)).transition ≡ t)
    → ((i : ℕ) → i < r → (arc_at s (at + 8 * b + 8 * m + 8 * i)).transition ≡ t → ⊥)
    → arcs_of t (arcs_from s at (b + (m + r))) ≡ arcs_from s (at + 8 * b) m
between t s at b m r x y z =
    let one = ap (arcs_of t) (arcs_append s at b (m + r)) ∙ arcs_of-append t (arcs_from s at b) (arcs_from s (at + 8 * b) (m + r)) in
    let two = ap (arcs_of t) (arcs_append s (at + 8 * b) m r) ∙ arcs_of-append t (arcs_from s (at + 8 * b) m) (arcs_from s (at + 8 * b + 8 * m) r) in
    one
    ∙ ap (λ (l : List Arc). l ++ arcs_of t (arcs_from s (at + 8 * b) (m + r))) (arcs_none t s at b x)
    ∙ two
    ∙ ap (λ (l : List Arc). l ++ arcs_of t (arcs_from s (at + 8 * b + 8 * m) r)) (arcs_all t s (at + 8 * b) m y)
    ∙ ap (λ (l : List Arc). arcs_from s (at + 8 * b) m ++ l) (arcs_none t s (at + 8 * b + 8 * m) r z)
    ∙ append-nil (arcs_from s (at + 8 * b) m)

-- a sum that grows has an arc at the place
sum-found : (s : List ℕ) (start p b k : ℕ) → sum_to s start p b < sum_to s start p (b + k) → (i : ℕ) × (b ≤ i) × (i < b + k) × ((arc_at s (start + 8 * i)).place ≡ p)
unfolding sum_to
sum-found s start p b zero h = absurd (let e : b + 0 ≡ b = omega arith in omega (arith, ap (sum_to s start p) e))
sum-found s start p b (suc k) h =
    let e : b + suc k ≡ suc (b + k) = omega arith in
    let a = arc_at s (start + 8 * (b + k)) in
    by_cases (eqb a.place p)
    (λ q. (b + k, omega arith, omega arith, eqb-true a.place p q))
    (λ q. let z : part p a ≡ 0 = rw q in
    let n : sum_to s start p b < sum_to s start p (b + k) = omega (arith, ap (sum_to s start p) e) in
    let r = sum-found s start p b k n in (r.0, r.1, omega arith, r.3))

-- ---- the table of a file that was read

module _ (s : List ℕ) (h : Header) (table : List ℕ) (so : Sound s h) (st : Starts s h table) where
  -- the entries do not fall, and none is above the number of arcs
  pub entry_most : (k : ℕ) → k ≤ 2 * h.transitions → get_or table k 0 ≤ h.arcs
  entry_most k l = (st.split k l).within

  pub entries-rise : (j k : ℕ) → j ≤ k → k ≤ 2 * h.transitions → get_or table j 0 ≤ get_or table k 0
  entries-rise j k l m = go (dec_lt (get_or table k 0) (get_or table j 0))
    where
      go : Dec (get_or table k 0 < get_or table j 0) → get_or table j 0 ≤ get_or table k 0
      go (yes x) =
          let low = st.split j (omega arith) in
          absurd (omega (arith, low.within, low.below (get_or table k 0) x, (st.split k m).above (get_or table k 0) (omega arith) (omega (arith, low.within))))
      go (no x) = omega (arith, x)

  module _ (t : ℕ) (l : t < h.transitions) where
    run-low : Split s h.arcstart h.arcs (2 * t) (get_or table (2 * t) 0)
    run-low = st.split (2 * t) (omega arith)

    run-high : Split s h.arcstart h.arcs (2 * t + 2) (get_or table (2 * t + 2) 0)
    run-high = st.split (2 * t + 2) (omega arith)

    -- each arc of the run is of t
    pub run-own : (i : ℕ) → get_or table (2 * t) 0 ≤ i → i < get_or table (2 * t + 2) 0 → (arc_at s (h.arcstart + 8 * i)).transition ≡ t
    unfolding slot_at
    run-own i a b =
        let n : i < h.arcs = omega (arith, run-high.within) in
        omega (arith, run-low.above i a n, run-high.below i b, (good_at s h so i n).direction)

    run-before : (i : ℕ) → i < get_or table (2 * t) 0 → (arc_at s (h.arcstart + 8 * i)).transition ≡ t → ⊥
    unfolding slot_at
    run-before i a q = omega (arith, run-low.below i a)

    run-after : (i : ℕ) → get_or table (2 * t + 2) 0 ≤ i → i < h.arcs → (arc_at s (h.arcstart + 8 * i)).transition ≡ t → ⊥
    unfolding slot_at
    run-after i a b q = omega (arith, run-high.above i a b, (good_at s h so i b).direction)

    -- the arcs of t
    pub run_is : arcs_of t (net_from s h).arcs ≡ arcs_from s (h.arcstart + 8 * get_or table (2 * t) 0) (get_or table (2 * t + 2) 0 - get_or table (2 * t) 0)
    run_is =
        let b = get_or table (2 * t) 0 in
        let e = get_or table (2 * t + 2) 0 in
        let rise : b ≤ e = entries-rise (2 * t) (2 * t + 2) (omega arith) (omega arith) in
        let most : e ≤ h.arcs = run-high.within in
        let at = h.arcstart in
        let all : h.arcs ≡ b + (e - b + (h.arcs - e)) = omega arith in
        let own : (i : ℕ) → at + 8 * b + 8 * i ≡ at + 8 * (b + i) = λ i. omega arith in
        let past : (i : ℕ) → at + 8 * b + 8 * (e - b) + 8 * i ≡ at + 8 * (e + i) = λ i. omega arith in
        ap (λ (n : ℕ). arcs_of t (arcs_from s at n)) all
        ∙ between t s at b (e - b) (h.arcs - e) run-before
        (λ i x. ap (λ (k : ℕ). (arc_at s k).transition) (own i) ∙ run-own (b + i) (omega arith) (omega arith))
        (λ i x q. run-after (e + i) (omega arith) (omega arith) (sym (ap (λ (k : ℕ). (arc_at s k).transition) (past i)) ∙ q))

  -- ---- the run of one direction: d is 0 for inputs, 1 for outputs

  module _ (d t : ℕ) (dl : d ≤ 1) (l : t < h.transitions) where
    slot_low : Split s h.arcstart h.arcs (2 * t + d) (get_or table (2 * t + d) 0)
    slot_low = st.split (2 * t + d) (omega arith)

    slot_high : Split s h.arcstart h.arcs (2 * t + d + 1) (get_or table (2 * t + d + 1) 0)
    slot_high = st.split (2 * t + d + 1) (omega arith)

    -- its sum at p is the weight that joins p and t
    pub run-weight : (p : ℕ) → sum_to s h.arcstart p (get_or table (2 * t + d + 1) 0) ≡ sum_to s h.arcstart p (get_or table (2 * t + d) 0) + weight_on d p t (net_from s h).arcs
    run-weight p = weight_run d p t s h.arcstart h.arcs _ _ dl (λ i a. (good_at s h so i a).direction) slot_low slot_high

    -- a weight comes from an arc
    pub weight_found : (p : ℕ) → 0 < weight_on d p t (net_from s h).arcs → (i : ℕ) × (get_or table (2 * t + d) 0 ≤ i) × (i < get_or table (2 * t + d + 1) 0) × ((arc_at s (h.arcstart + 8 * i)).place ≡ p)
    weight_found p w =
        let b = get_or table (2 * t + d) 0 in
        let e = get_or table (2 * t + d + 1) 0 in
        let rise : b ≤ e = entries-rise (2 * t + d) (2 * t + d + 1) (omega arith) (omega arith) in
        let z : b + (e - b) ≡ e = omega arith in
        let more : sum_to s h.arcstart p b < sum_to s h.arcstart p (b + (e - b)) = omega (arith, run-weight p, ap (sum_to s h.arcstart p) z) in
        let r = sum-found s h.arcstart p b (e - b) more in
        (r.0, r.1, omega arith, r.3)

    -- and an arc gives one
    pub weight_there : (i : ℕ) → get_or table (2 * t + d) 0 ≤ i → i < get_or table (2 * t + d + 1) 0 → 0 < weight_on d (arc_at s (h.arcstart + 8 * i)).place t (net_from s h).arcs
    weight_there i a b =
        let x = arc_at s (h.arcstart + 8 * i) in
        let g = good_at s h so i (omega (arith, slot_high.within)) in
        omega (
          arith,
          g.weight,
          run-weight x.place,
          sum_more s h.arcstart x.place (get_or table (2 * t + d) 0) i a,
          sum_next s h.arcstart x.place i,
          part-here x x.place refl,
          sum_more s h.arcstart x.place (i + 1) (get_or table (2 * t + d + 1) 0) (omega arith),
        )
