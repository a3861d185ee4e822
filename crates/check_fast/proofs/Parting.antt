-- Where the slice's arcs part from those due: the lowest transition that breaks rule 4.
use Prim.Native.Nat.{ℕ, zero, suc, ◌+◌, ◌-◌, ◌*◌, ◌≤◌, ◌<◌}
use mathlib.Core.Path.{◌≡◌, refl, sym, ap, ◌∙◌}
use mathlib.Core.Bool.{Bool, true, false, not, ◌&&◌}
use mathlib.Core.List.{List, [], ◌∷◌}
use native.Mathlib.Omega.{arith}
use lib.Dec.{eqb, ltb}
use lib.ListN.{length, get_or}
use borrow.Author.Tests.{eq-eqb, ne_eqb, eqb-true, eqb-false, ltb-true, ltb-false}
use Rattle.net.specs.Numbers.{among, position, Rising}
use Rattle.net.specs.Slice.{arcs_of, renumber, restrict, slice_run, plan_run}
use Rattle.net.specs.Checker.{breaks, breaker, rule4, same_arc, same_arcs}
use Rattle.net.specs.declared.Arc.{Arc}
use Rattle.net.proofs.Numbers.{by_cases, by_order, holds, is_true, and_left, and_right, at_position, position-lt, position_at, rising_lt, rising_reflects, among-at}
use Rattle.net.proofs.Weights.{run-restrict}
use Rattle.net.proofs.Verdict.{same_arcs_refl}
use Rattle.file_arcs.specs.Layout.{arc_at, arcs_from}
use Rattle.file.specs.Layout.{net_from, slice_from}
use Rattle.file.specs.Facts.{Sound}
use Rattle.file_header.specs.declared.Header.{Header}
use Rattle.file_arcs.proofs.Rows.{first, later, range_at, key-le}
use Rattle.file.proofs.Rows.{length-words}
use Rattle.rules_tables.proofs.Rows.{row_cons, row_end, restrict-in, restrict-out, restrict-none}
use Rattle.rules_tables.proofs.Lowest.{breaker-found}

-- ---- the arcs of one transition

arcs_head : (n : ℕ) (a : Arc) (l : List Arc) → a.transition ≡ n → arcs_of n (a ∷ l) ≡ a ∷ arcs_of n l
unfolding arcs_of
arcs_head n a l e = rw (eq-eqb a.transition n e, arcs_of)

arcs_other : (n : ℕ) (a : Arc) (l : List Arc) → (a.transition ≡ n → ⊥) → arcs_of n (a ∷ l) ≡ arcs_of n l
unfolding arcs_of
arcs_other n a l e = rw (ne_eqb a.transition n e, arcs_of)

none_of : (n : ℕ) → arcs_of n [] ≡ []
unfolding arcs_of
none_of n = refl

same_self : (a : Arc) → same_arc a a ≡ true
unfolding same_arcs
same_self a = is_true (same_arc a a) (and_left (same_arc a a) (same_arcs [] []) (same_arcs_refl (a ∷ [])))

heads : (a b : Arc) (l m : List Arc) (v : Bool) → same_arc a b ≡ v → same_arcs (a ∷ l) (b ∷ m) ≡ (v && same_arcs l m)
unfolding same_arcs
heads a b l m v e = ap (λ (w : Bool). w && same_arcs l m) e

short : (b : Arc) (m : List Arc) → same_arcs [] (b ∷ m) ≡ false
unfolding same_arcs
short b m = refl

long : (a : Arc) (l : List Arc) → same_arcs (a ∷ l) [] ≡ false
unfolding same_arcs
long a l = refl

both_end : same_arcs [] [] ≡ true
unfolding same_arcs
both_end = refl

-- an arc that both lists have first
same_head : (n : ℕ) (a : Arc) (l m : List Arc) → same_arcs (arcs_of n (a ∷ l)) (arcs_of n (a ∷ m)) ≡ same_arcs (arcs_of n l) (arcs_of n m)
same_head n a l m =
    by_cases (eqb a.transition n)
    (λ e. let t = eqb-true a.transition n e in rw (arcs_head n a l t, arcs_head n a m t) (heads a a _ _ true (same_self a)))
    (λ e. let t = eqb-false a.transition n e in rw (arcs_other n a l t, arcs_other n a m t))

none_before : (s : List ℕ) (at n t : ℕ) → ((i : ℕ) → i < n → t < (arc_at s (at + 8 * i)).transition) → arcs_of t (arcs_from s at n) ≡ []
unfolding arcs_from
none_before s at zero t h = none_of t
none_before s at (suc n) t h =
    arcs_other t (arc_at s at) (arcs_from s (at + 8) n) (λ e. omega (arith, h 0 (omega arith), ap (λ (a : Arc). a.transition) (first s at)))
    ∙ none_before s (at + 8) n t (λ i l. omega (arith, h (suc i) (omega arith), ap (λ (a : Arc). a.transition) (later s at i)))

-- ---- what is left of a file's arcs

abbrev pub left : List ℕ → Header → ℕ → List Arc
left s h k = arcs_from s (h.arcstart + 8 * k) (h.arcs - k)

whole : (s : List ℕ) (h : Header) → (net_from s h).arcs ≡ left s h 0
whole s h =
    let e : h.arcstart ≡ h.arcstart + 8 * 0 = omega arith in
    let f : h.arcs ≡ h.arcs - 0 = omega arith in
    ap (λ (at : ℕ). arcs_from s at h.arcs) e ∙ ap (arcs_from s (h.arcstart + 8 * 0)) f

module _ (s : List ℕ) (h : Header) (w : Sound s h) where
  in_order : (i j : ℕ) → i ≤ j → j < h.arcs → (arc_at s (h.arcstart + 8 * i)).transition ≤ (arc_at s (h.arcstart + 8 * j)).transition
  in_order i j l m =
      let g = range_at h.places h.transitions s h.arcstart h.arcs i w.arcs (omega arith) in
      let f = range_at h.places h.transitions s h.arcstart h.arcs j w.arcs m in
      omega (arith, key-le s h.arcstart 0 h.arcs i j w.order l m, g.direction, g.place, f.direction, f.place, w.placed.places)

  -- no arc left is of a transition below the next one's
  pub none_left : (k t : ℕ) → (k < h.arcs → t < (arc_at s (h.arcstart + 8 * k)).transition) → arcs_of t (left s h k) ≡ []
  none_left k t b =
      by_cases (ltb k h.arcs)
      (λ e. let l = ltb-true k h.arcs e in
      none_before s (h.arcstart + 8 * k) (h.arcs - k) t (λ i m.
      let at : h.arcstart + 8 * k + 8 * i ≡ h.arcstart + 8 * (k + i) = omega arith in
      omega (arith, b l, in_order k (k + i) (omega arith) (omega arith), ap (λ (n : ℕ). (arc_at s n).transition) at)))
      (λ e. ap (arcs_of t) (row_end s h.arcstart h.arcs k (ltb-false k h.arcs e)) ∙ none_of t)

-- ---- the two files

-- the runs agree exactly where what is left of them does
pub record Level (plan : List ℕ) (hp : Header) (slice : List ℕ) (hs : Header) (j k : ℕ) : Type 0 where
  pub within : j ≤ hp.arcs
  pub behind : k ≤ hs.arcs
  pub runs : (n : ℕ) → same_arcs (arcs_of n (net_from slice hs).arcs) (arcs_of n (restrict (slice_from slice hs).place_origins (slice_from slice hs).transition_origins (net_from plan hp).arcs))
      ≡ same_arcs (arcs_of n (left slice hs k)) (arcs_of n (restrict (slice_from slice hs).place_origins (slice_from slice hs).transition_origins (left plan hp j)))

module _ (plan : List ℕ) (hp : Header) (slice : List ℕ) (hs : Header) where
  module _ (j k : ℕ) (x : Level plan hp slice hs j k) where
    -- one more of the plan, left out
    pub level_out : j < hp.arcs → (among (arc_at plan (hp.arcstart + 8 * j)).place (slice_from slice hs).place_origins && among (arc_at plan (hp.arcstart + 8 * j)).transition (slice_from slice hs).transition_origins) ≡ false
        → Level plan hp slice hs (j + 1) k
    level_out l e = record {
      within = omega arith;
      behind = x.behind;
      runs = λ n. x.runs n ∙ ap (λ (m : List Arc). same_arcs (arcs_of n (left slice hs k)) (arcs_of n m))
          (ap (restrict (slice_from slice hs).place_origins (slice_from slice hs).transition_origins) (row_cons plan hp.arcstart hp.arcs j l) ∙ restrict-out _ _ _ _ e);
    }

    module _ (l : j < hp.arcs) (kept : (among (arc_at plan (hp.arcstart + 8 * j)).place (slice_from slice hs).place_origins && among (arc_at plan (hp.arcstart + 8 * j)).transition (slice_from slice hs).transition_origins) ≡ true) where
      due_first : restrict (slice_from slice hs).place_origins (slice_from slice hs).transition_origins (left plan hp j)
          ≡ renumber (slice_from slice hs).place_origins (slice_from slice hs).transition_origins (arc_at plan (hp.arcstart + 8 * j)) ∷ restrict (slice_from slice hs).place_origins (slice_from slice hs).transition_origins (left plan hp (j + 1))
      due_first = ap (restrict (slice_from slice hs).place_origins (slice_from slice hs).transition_origins) (row_cons plan hp.arcstart hp.arcs j l) ∙ restrict-in _ _ _ _ kept

      -- one more of each
      pub level_next : k < hs.arcs → arc_at slice (hs.arcstart + 8 * k) ≡ renumber (slice_from slice hs).place_origins (slice_from slice hs).transition_origins (arc_at plan (hp.arcstart + 8 * j))
          → Level plan hp slice hs (j + 1) (k + 1)
      level_next h e = record {
        within = omega arith;
        behind = omega arith;
        runs = λ n. x.runs n
            ∙ ap (λ (m : List Arc). same_arcs (arcs_of n m) (arcs_of n (restrict (slice_from slice hs).place_origins (slice_from slice hs).transition_origins (left plan hp j)))) (row_cons slice hs.arcstart hs.arcs k h ∙ ap (λ (a : Arc). a ∷ left slice hs (k + 1)) e)
            ∙ ap (λ (m : List Arc). same_arcs (arcs_of n (renumber (slice_from slice hs).place_origins (slice_from slice hs).transition_origins (arc_at plan (hp.arcstart + 8 * j)) ∷ left slice hs (k + 1))) (arcs_of n m)) due_first
            ∙ same_head n _ _ _;
      }

-- ---- the lowest transition whose runs differ

module _ (plan : List ℕ) (hp : Header) (slice : List ℕ) (hs : Header) (planned : Sound plan hp) (sliced : Sound slice hs) (rising : Rising (slice_from slice hs).transition_origins) (j k : ℕ) (x : Level plan hp slice hs j k) where
  -- a kept transition breaks the rule where what is left of its runs differs
  rule_at_lem : (t : ℕ) → among t (slice_from slice hs).transition_origins ≡ true → (v : Bool)
      → same_arcs (arcs_of (position t (slice_from slice hs).transition_origins) (left slice hs k)) (arcs_of (position t (slice_from slice hs).transition_origins) (restrict (slice_from slice hs).place_origins (slice_from slice hs).transition_origins (left plan hp j))) ≡ v
      → breaks (rule4 (net_from plan hp) (slice_from slice hs)) t ≡ not v
  unfolding breaks rule4 slice_run plan_run
  rule_at_lem t e v s =
      let ps = (slice_from slice hs).place_origins in
      let ts = (slice_from slice hs).transition_origins in
      let n = position t ts in
      let same : same_arcs (arcs_of n (net_from slice hs).arcs) (restrict ps ts (arcs_of t (net_from plan hp).arcs)) ≡ v = ap (same_arcs (arcs_of n (net_from slice hs).arcs)) (sym (run-restrict ps ts t (holds _ e) (net_from plan hp).arcs)) ∙ x.runs n ∙ s in
      rw (e, same)

  rule_out : (t : ℕ) → among t (slice_from slice hs).transition_origins ≡ false → breaks (rule4 (net_from plan hp) (slice_from slice hs)) t ≡ false
  unfolding breaks rule4
  rule_out t e = rw e

  plan_none : (t : ℕ) → among t (slice_from slice hs).transition_origins ≡ true → (j < hp.arcs → t < (arc_at plan (hp.arcstart + 8 * j)).transition)
      → arcs_of (position t (slice_from slice hs).transition_origins) (restrict (slice_from slice hs).place_origins (slice_from slice hs).transition_origins (left plan hp j)) ≡ []
  plan_none t e b = run-restrict _ _ t (holds _ e) (left plan hp j) ∙ ap (restrict (slice_from slice hs).place_origins (slice_from slice hs).transition_origins) (none_left plan hp planned j t b) ∙ restrict-none _ _

  own-long : length (slice_from slice hs).transition_origins ≡ hs.transitions
  own-long = length-words slice (hs.originstart + 2 * hs.places) hs.transitions

  -- the plan's number of the transition of the slice's next arc
  abbrev pub origin : ℕ
  origin = get_or (slice_from slice hs).transition_origins (arc_at slice (hs.arcstart + 8 * k)).transition 0

  own-inside : k < hs.arcs → (arc_at slice (hs.arcstart + 8 * k)).transition < length (slice_from slice hs).transition_origins
  own-inside l = omega (arith, own-long, (range_at hs.places hs.transitions slice hs.arcstart hs.arcs k sliced.arcs l).transition)

  own-before : (t : ℕ) → among t (slice_from slice hs).transition_origins ≡ true → t < origin → position t (slice_from slice hs).transition_origins < (arc_at slice (hs.arcstart + 8 * k)).transition
  own-before t e l =
      let ts = (slice_from slice hs).transition_origins in
      rising_reflects ts rising (position t ts) (arc_at slice (hs.arcstart + 8 * k)).transition (position-lt t ts (holds _ e)) (omega (arith, at_position t ts (holds _ e), l))

  -- a transition below both next ones
  below_both : (t : ℕ) → (j < hp.arcs → t < (arc_at plan (hp.arcstart + 8 * j)).transition) → (k < hs.arcs → t < origin) → breaks (rule4 (net_from plan hp) (slice_from slice hs)) t ≡ false
  below_both t p s =
      by_cases (among t (slice_from slice hs).transition_origins)
      (λ e. rule_at_lem t e true (rw (none_left slice hs sliced k (position t (slice_from slice hs).transition_origins) (λ l. own-before t e (s l)), plan_none t e p) both_end))
      (λ e. rule_out t e)

  found : (t r : ℕ) → r ≡ t → breaks (rule4 (net_from plan hp) (slice_from slice hs)) t ≡ true → ((u : ℕ) → u < t → breaks (rule4 (net_from plan hp) (slice_from slice hs)) u ≡ false) → r < hp.transitions → r ≡ breaker (rule4 (net_from plan hp) (slice_from slice hs))
  unfolding rule4
  found t r e b lower l = breaker-found _ hp.transitions r refl (λ u m. lower u (omega arith)) l (ap (breaks (rule4 (net_from plan hp) (slice_from slice hs))) e ∙ b)

  -- the slice's next arc is of a lower transition than the plan's, or the plan has none left
  pub parted_slice : k < hs.arcs → (j < hp.arcs → origin < (arc_at plan (hp.arcstart + 8 * j)).transition) → (r : ℕ) → r ≡ origin → r < hp.transitions → r ≡ breaker (rule4 (net_from plan hp) (slice_from slice hs))
  parted_slice l b r e =
      let ts = (slice_from slice hs).transition_origins in
      let n = (arc_at slice (hs.arcstart + 8 * k)).transition in
      let held : among origin ts ≡ true = is_true _ (among-at ts n (own-inside l)) in
      let own : position origin ts ≡ n = position_at ts rising n (own-inside l) in
      let rest : arcs_of (position origin ts) (left slice hs k) ≡ arc_at slice (hs.arcstart + 8 * k) ∷ arcs_of (position origin ts) (left slice hs (k + 1)) = ap (arcs_of (position origin ts)) (row_cons slice hs.arcstart hs.arcs k l) ∙ arcs_head (position origin ts) _ _ (sym own) in
      found origin r e (rule_at_lem origin held false (rw (rest, plan_none origin held b) (long _ _)))
      (λ u m. below_both u (λ h. omega (arith, b h)) (λ h. m))

  module _ (l : j < hp.arcs) (kept : (among (arc_at plan (hp.arcstart + 8 * j)).place (slice_from slice hs).place_origins && among (arc_at plan (hp.arcstart + 8 * j)).transition (slice_from slice hs).transition_origins) ≡ true) where
    abbrev pub here : ℕ
    here = (arc_at plan (hp.arcstart + 8 * j)).transition

    held-here : among here (slice_from slice hs).transition_origins ≡ true
    held-here = is_true _ (and_right (among (arc_at plan (hp.arcstart + 8 * j)).place (slice_from slice hs).place_origins) (among here (slice_from slice hs).transition_origins) (holds _ kept))

    due : arcs_of (position here (slice_from slice hs).transition_origins) (restrict (slice_from slice hs).place_origins (slice_from slice hs).transition_origins (left plan hp j))
        ≡ renumber (slice_from slice hs).place_origins (slice_from slice hs).transition_origins (arc_at plan (hp.arcstart + 8 * j))
        ∷ arcs_of (position here (slice_from slice hs).transition_origins) (restrict (slice_from slice hs).place_origins (slice_from slice hs).transition_origins (left plan hp (j + 1)))
    unfolding renumber
    due = ap (arcs_of (position here (slice_from slice hs).transition_origins)) (due_first plan hp slice hs j k x l kept) ∙ arcs_head _ _ _ refl

    -- the slice has no arc of this transition left, or another one
    differs : (k < hs.arcs → here ≤ origin) → (k < hs.arcs → same_arc (arc_at slice (hs.arcstart + 8 * k)) (renumber (slice_from slice hs).place_origins (slice_from slice hs).transition_origins (arc_at plan (hp.arcstart + 8 * j))) ≡ false)
        → breaks (rule4 (net_from plan hp) (slice_from slice hs)) here ≡ true
    differs low other =
        let ts = (slice_from slice hs).transition_origins in
        let n = position here ts in
        let b = (arc_at slice (hs.arcstart + 8 * k)).transition in
        let none : (k < hs.arcs → n < b) → breaks (rule4 (net_from plan hp) (slice_from slice hs)) here ≡ true = λ m. rule_at_lem here held-here false (rw (none_left slice hs sliced k n m, due) (short _ _)) in
        by_cases (ltb k hs.arcs)
        (λ h. let m = ltb-true k hs.arcs h in
        by_order n b
        (λ d. none (λ q. d))
        (λ d. let rest : arcs_of n (left slice hs k) ≡ arc_at slice (hs.arcstart + 8 * k) ∷ arcs_of n (left slice hs (k + 1)) = ap (arcs_of n) (row_cons slice hs.arcstart hs.arcs k m) ∙ arcs_head n _ _ (sym d) in
        rule_at_lem here held-here false (rw (rest, due) (heads _ _ _ _ false (other m))))
        (λ d. absurd (omega (arith, low m, at_position here ts (holds _ held-here), rising_lt ts rising b n d (position-lt here ts (holds _ held-here))))))
        (λ h. none (λ q. absurd (omega (arith, ltb-false k hs.arcs h))))

    -- the plan's next arc is due, and not there
    pub parted_plan : (k < hs.arcs → here ≤ origin) → (k < hs.arcs → same_arc (arc_at slice (hs.arcstart + 8 * k)) (renumber (slice_from slice hs).place_origins (slice_from slice hs).transition_origins (arc_at plan (hp.arcstart + 8 * j))) ≡ false)
        → (r : ℕ) → r ≡ here → r < hp.transitions → r ≡ breaker (rule4 (net_from plan hp) (slice_from slice hs))
    parted_plan low other r e = found here r e (differs low other) (λ u m. below_both u (λ h. m) (λ h. omega (arith, low h)))
