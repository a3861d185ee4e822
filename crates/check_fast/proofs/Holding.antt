-- Arcs that are all gone through: the rules 4 to 10 hold.
use Prim.Native.Nat.{ℕ, zero, suc, ◌+◌, ◌*◌, ◌≤◌, ◌<◌}
use mathlib.Core.Path.{◌≡◌, refl, sym, ap, ◌∙◌}
use mathlib.Core.Bool.{Bool, true, false, not, ◌&&◌}
use mathlib.Core.List.{List}
use native.Mathlib.Omega.{arith}
use lib.Dec.{eqb, ltb, ltb→lt, eqb→eq, T_not}
use borrow.Author.Tests.{eq-eqb, ltb-true, ltb-false}
use Rattle.net.specs.Numbers.{among, position, any, selected}
use Rattle.net.specs.Net.{Net, input, output, weight_on, joins, counted, changes, raises, takes_from, adds_to, capped}
use Rattle.net.specs.Slice.{Slice, arcs_of, restrict, slice_run, plan_run}
use Rattle.net.specs.Checker.{breaks, rule4, rule5, rule6, rule7, rule8, rule9, rule10, lacks_input, lacks_output, same_arcs}
use Rattle.net.proofs.Numbers.{by_cases, by_order, holds, is_true, is_false, fails, not-not, and_left, and_right, any-finds}
use Rattle.net.proofs.Weights.{run-restrict}
use Rattle.net.proofs.Verdict.{same_arcs_refl}
use Rattle.file_arcs.specs.Layout.{arc_at, arcs_from}
use Rattle.file.specs.Layout.{net_from, slice_from}
use Rattle.file_header.specs.declared.Header.{Header}
use Rattle.rules_tables.specs.Agreed.{Agreed}
use Rattle.check_fast.specs.Pass.{watched, FineIn, Passed}
use Rattle.check_fast.proofs.Watching.{watched-asked, watched-capped}

-- ---- a weight comes from an arc

pub record Found (s : List ℕ) (start n d p t : ℕ) : Type 0 where
  pub index : ℕ
  pub inside : index < n
  pub of_transition : (arc_at s (start + 8 * index)).transition ≡ t
  pub of_direction : (arc_at s (start + 8 * index)).direction ≡ d
  pub of_place : (arc_at s (start + 8 * index)).place ≡ p

found : (d p t : ℕ) (s : List ℕ) (start n : ℕ) → 0 < weight_on d p t (arcs_from s start n) → Found s start n d p t
unfolding weight_on arcs_from
found d p t s start zero h = absurd (omega arith)
found d p t s start (suc n) h =
    by_cases (joins d p t (arc_at s start))
    (λ e.
    let a = arc_at s start in
    let z : start + 8 * 0 ≡ start = omega arith in
    let one = and_left (eqb a.transition t && eqb a.direction d) (eqb a.place p) (holds _ e) in
    record {
      index = 0;
      inside = omega arith;
      of_transition = ap (λ (k : ℕ). (arc_at s k).transition) z ∙ eqb→eq _ _ (and_left (eqb a.transition t) (eqb a.direction d) one);
      of_direction = ap (λ (k : ℕ). (arc_at s k).direction) z ∙ eqb→eq _ _ (and_right (eqb a.transition t) (eqb a.direction d) one);
      of_place = ap (λ (k : ℕ). (arc_at s k).place) z ∙ eqb→eq _ _ (and_right (eqb a.transition t && eqb a.direction d) (eqb a.place p) (holds _ e));
    })
    (λ e.
    let w : counted (joins d p t (arc_at s start)) (arc_at s start).weight ≡ 0 = ap (λ (b : Bool). counted b (arc_at s start).weight) e in
    let f = found d p t s (start + 8) n (omega arith) in
    let z : start + 8 * suc f.index ≡ start + 8 + 8 * f.index = omega arith in
    record {
      index = suc f.index;
      inside = omega (arith, f.inside);
      of_transition = ap (λ (k : ℕ). (arc_at s k).transition) z ∙ f.of_transition;
      of_direction = ap (λ (k : ℕ). (arc_at s k).direction) z ∙ f.of_direction;
      of_place = ap (λ (k : ℕ). (arc_at s k).place) z ∙ f.of_place;
    })

-- ---- the rules

module _ (plan : List ℕ) (hp : Header) (slice : List ℕ) (hs : Header) (Q : List ℕ) (d : ℕ) (x : Passed plan hp slice hs Q d) where
  fourth : (t : ℕ) → breaks (rule4 (net_from plan hp) (slice_from slice hs)) t ≡ false
  unfolding breaks rule4 slice_run plan_run
  fourth t =
      let ts = (slice_from slice hs).transition_origins in
      let ps = (slice_from slice hs).place_origins in
      by_cases (among t ts)
      (λ e.
      let same : arcs_of (position t ts) (net_from slice hs).arcs ≡ restrict ps ts (arcs_of t (net_from plan hp).arcs) = ap (arcs_of (position t ts)) x.same ∙ run-restrict ps ts t (holds _ e) (net_from plan hp).arcs in
      let run = restrict ps ts (arcs_of t (net_from plan hp).arcs) in
      rw (e, same, is_true (same_arcs run run) (same_arcs_refl run)))
      (λ e. rw e)

  -- an arc that a weight comes from is fine
  module _ (e p t : ℕ) (w : 0 < weight_on e p t (arcs_from plan hp.arcstart hp.arcs)) where
    where_found : Found plan hp.arcstart hp.arcs e p t
    where_found = found e p t plan hp.arcstart hp.arcs w

    arc-there : FineIn plan hp slice hs Q d (arc_at plan (hp.arcstart + 8 * where_found.index))
    arc-there = x.fine where_found.index where_found.inside

    fed : 7 < d → e ≡ 0 → among t (slice_from slice hs).transition_origins ≡ true → among p (slice_from slice hs).place_origins ≡ true
    fed g z e =
        ap (λ (q : ℕ). among q (slice_from slice hs).place_origins) (sym where_found.of_place)
        ∙ arc-there.fed g (ap (λ (u : ℕ). among u (slice_from slice hs).transition_origins) where_found.of_transition ∙ e) (where_found.of_direction ∙ z)

    unchanged : 6 < d → among t (slice_from slice hs).transition_origins ≡ false → among p (watched plan hp slice hs Q) ≡ true → changes (net_from plan hp) t p ≡ false
    unchanged g e q =
        ap (λ (u : ℕ). changes (net_from plan hp) u p) (sym where_found.of_transition)
        ∙ ap (changes (net_from plan hp) _) (sym where_found.of_place)
        ∙ arc-there.unchanged g (ap (λ (u : ℕ). among u (slice_from slice hs).transition_origins) where_found.of_transition ∙ e) (ap (λ (u : ℕ). among u (watched plan hp slice hs Q)) where_found.of_place ∙ q)

    unraised : 8 < d → e ≡ 1 → among t (slice_from slice hs).transition_origins ≡ false → among p (slice_from slice hs).place_origins ≡ true → raises (net_from plan hp) t p ≡ false
    unraised g z e q =
        ap (λ (u : ℕ). raises (net_from plan hp) u p) (sym where_found.of_transition)
        ∙ ap (raises (net_from plan hp) _) (sym where_found.of_place)
        ∙ arc-there.unraised g (ap (λ (u : ℕ). among u (slice_from slice hs).transition_origins) where_found.of_transition ∙ e) (ap (λ (u : ℕ). among u (slice_from slice hs).place_origins) where_found.of_place ∙ q) (where_found.of_direction ∙ z)

    holding : 9 < d → e ≡ 1 → among t (slice_from slice hs).transition_origins ≡ true → capped (net_from plan hp) p ≡ true → among p (slice_from slice hs).place_origins ≡ true
    holding g z e c =
        ap (λ (q : ℕ). among q (slice_from slice hs).place_origins) (sym where_found.of_place)
        ∙ arc-there.held g (ap (λ (u : ℕ). among u (slice_from slice hs).transition_origins) where_found.of_transition ∙ e) (where_found.of_direction ∙ z) (ap (capped (net_from plan hp)) where_found.of_place ∙ c)

  no_change : 6 < d → (t p : ℕ) → among t (slice_from slice hs).transition_origins ≡ false → among p (watched plan hp slice hs Q) ≡ true → changes (net_from plan hp) t p ≡ false
  unfolding changes input output
  no_change g t p e q =
      by_order (weight_on 0 p t (arcs_from plan hp.arcstart hp.arcs)) (weight_on 1 p t (arcs_from plan hp.arcstart hp.arcs))
      (λ l. unchanged 1 p t (omega arith) g e q)
      (λ l. rw (eq-eqb _ _ l))
      (λ l. unchanged 0 p t (omega arith) g e q)

  seventh : 7 < d → (t : ℕ) → breaks (rule7 (net_from plan hp) (slice_from slice hs)) t ≡ false
  unfolding breaks rule7 lacks_input takes_from input
  seventh g t =
      let N = net_from plan hp in
      let ps = (slice_from slice hs).place_origins in
      let ts = (slice_from slice hs).transition_origins in
      let lacks = any (λ p. takes_from N t p && not (among p ps)) (selected (λ p. true) 0 hp.places) in
      is_false _ (λ b.
      let kept = is_true _ (and_left (among t ts) (not (not lacks)) b) in
      let f = any-finds (λ p. takes_from N t p && not (among p ps)) (selected (λ p. true) 0 hp.places) (not-not lacks (λ n. T_not (not lacks) (and_right (among t ts) (not (not lacks)) b) n)) in
      let takes = ltb→lt 0 (weight_on 0 f.0 t N.arcs) (and_left (takes_from N t f.0) (not (among f.0 ps)) f.2) in
      T_not (among f.0 ps) (and_right (takes_from N t f.0) (not (among f.0 ps)) f.2) (holds _ (fed 0 f.0 t takes g refl kept)))

  eighth : 8 < d → (t : ℕ) → breaks (rule8 (net_from plan hp) (slice_from slice hs)) t ≡ false
  unfolding breaks rule8 raises input output
  eighth g t =
      let N = net_from plan hp in
      let ps = (slice_from slice hs).place_origins in
      let ts = (slice_from slice hs).transition_origins in
      is_false _ (λ b.
      let f = any-finds (raises N t) ps (and_left (any (raises N t) ps) (not (among t ts)) b) in
      let out = is_false _ (T_not (among t ts) (and_right (any (raises N t) ps) (not (among t ts)) b)) in
      let more = ltb→lt (weight_on 0 f.0 t N.arcs) (weight_on 1 f.0 t N.arcs) f.2 in
      fails _ (unraised 1 f.0 t (omega arith) g refl out (is_true _ f.1)) f.2)

  ninth : 9 < d → (t : ℕ) → breaks (rule9 (net_from plan hp) (slice_from slice hs)) t ≡ false
  unfolding breaks rule9 lacks_output adds_to output
  ninth g t =
      let N = net_from plan hp in
      let ps = (slice_from slice hs).place_origins in
      let ts = (slice_from slice hs).transition_origins in
      let lacks = any (λ p. (capped N p && adds_to N t p) && not (among p ps)) (selected (λ p. true) 0 hp.places) in
      is_false _ (λ b.
      let kept = is_true _ (and_left (among t ts) (not (not lacks)) b) in
      let f = any-finds (λ p. (capped N p && adds_to N t p) && not (among p ps)) (selected (λ p. true) 0 hp.places) (not-not lacks (λ n. T_not (not lacks) (and_right (among t ts) (not (not lacks)) b) n)) in
      let p = f.0 in
      let both = and_left (capped N p && adds_to N t p) (not (among p ps)) f.2 in
      let adds = ltb→lt 0 (weight_on 1 p t N.arcs) (and_right (capped N p) (adds_to N t p) both) in
      T_not (among p ps) (and_right (capped N p && adds_to N t p) (not (among p ps)) f.2) (holds _ (holding 1 p t adds g refl kept (is_true _ (and_left (capped N p) (adds_to N t p) both)))))

  tenth : 6 < d → (t : ℕ) → breaks (rule10 (net_from plan hp) (slice_from slice hs)) t ≡ false
  unfolding breaks rule10
  tenth g t =
      let N = net_from plan hp in
      let ps = (slice_from slice hs).place_origins in
      let ts = (slice_from slice hs).transition_origins in
      let moves = any (λ p. capped N p && changes N t p) ps in
      is_false _ (λ b.
      let f = any-finds (λ p. capped N p && changes N t p) ps (and_left moves (not (among t ts)) b) in
      let p = f.0 in
      let out = is_false _ (T_not (among t ts) (and_right moves (not (among t ts)) b)) in
      fails _ (no_change g t p out (watched-capped plan hp slice hs Q p f.1 (and_left (capped N p) (changes N t p) f.2))) (and_right (capped N p) (changes N t p) f.2))

  module _ (known : (q : ℕ) → among q Q ≡ true → q < hp.places) (kept : (q : ℕ) → among q Q ≡ true → among q (slice_from slice hs).place_origins ≡ true) where
    fifth : (p : ℕ) → breaks (rule5 (net_from plan hp) (slice_from slice hs) Q) p ≡ false
    unfolding breaks rule5
    fifth p = by_cases (among p Q) (λ e. rw (e, kept p e)) (λ e. rw e)

    sixth : 6 < d → (t : ℕ) → breaks (rule6 (net_from plan hp) (slice_from slice hs) Q) t ≡ false
    unfolding breaks rule6
    sixth g t =
        let ts = (slice_from slice hs).transition_origins in
        is_false _ (λ b.
        let f = any-finds (changes (net_from plan hp) t) Q (and_left (any (changes (net_from plan hp) t) Q) (not (among t ts)) b) in
        let out = is_false _ (T_not (among t ts) (and_right (any (changes (net_from plan hp) t) Q) (not (among t ts)) b)) in
        fails _ (no_change g t f.0 out (watched-asked plan hp slice hs Q f.0 (known f.0 (is_true _ f.1)) (is_true _ f.1))) f.2)

    agreed : Agreed d (net_from plan hp) (slice_from slice hs) Q
    agreed = record {
      fourth = λ g. record { at = λ n l. fourth n };
      fifth = λ g. record { at = λ n l. fifth n };
      sixth = λ g. record { at = λ n l. sixth g n };
      seventh = λ g. record { at = λ n l. seventh g n };
      eighth = λ g. record { at = λ n l. eighth g n };
      ninth = λ g. record { at = λ n l. ninth g n };
      tenth = λ g. record { at = λ n l. tenth (omega arith) n };
    }

-- no rule from the fourth on comes before it
pub nothing_known : (N : Net) (S : Slice) (Q : List ℕ) (d : ℕ) → d ≤ 4 → Agreed d N S Q
nothing_known N S Q d l = record {
  fourth = λ g. absurd (omega arith);
  fifth = λ g. absurd (omega arith);
  sixth = λ g. absurd (omega arith);
  seventh = λ g. absurd (omega arith);
  eighth = λ g. absurd (omega arith);
  ninth = λ g. absurd (omega arith);
  tenth = λ g. absurd (omega arith);
}

-- the rules before the one that the pass leaves in doubt
pub passed_agreed : (plan : List ℕ) (hp : Header) (slice : List ℕ) (hs : Header) (Q : List ℕ) (d : ℕ) → (4 < d → Passed plan hp slice hs Q d)
    → ((q : ℕ) → among q Q ≡ true → q < hp.places) → ((q : ℕ) → among q Q ≡ true → among q (slice_from slice hs).place_origins ≡ true) → Agreed d (net_from plan hp) (slice_from slice hs) Q
passed_agreed plan hp slice hs Q d x known kept =
    by_cases (ltb 4 d)
    (λ e. agreed plan hp slice hs Q d (x (ltb-true 4 d e)) known kept)
    (λ e. nothing_known _ _ _ d (ltb-false 4 d e))
