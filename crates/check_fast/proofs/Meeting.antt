-- The plan's arc against the slice's next one, as words.
use Prim.Native.Nat.{ℕ, ◌+◌, ◌*◌, ◌/◌, ◌%◌, ◌≤◌, ◌<◌}
use mathlib.Core.Path.{◌≡◌, refl, sym, ap, ◌∙◌, subst}
use mathlib.Core.Bool.{true, false, ◌&&◌}
use mathlib.Core.List.{List, [], ◌∷◌}
use native.Mathlib.Omega.{arith}
use lib.Dec.{T}
use lib.ListN.{get_or}
use Rattle.net.specs.Numbers.{among, position}
use Rattle.net.specs.Slice.{renumber}
use Rattle.net.specs.Checker.{breaker, rule4, same_arc, same_arcs}
use Rattle.net.specs.declared.Arc.{Arc}
use Rattle.net.proofs.Numbers.{by_cases, by_order, holds, is_true, is_false, and_both, and_left, and_right}
use Rattle.net.proofs.Verdict.{same_arcs_lem}
use Rattle.file_arcs.specs.Layout.{arc_at}
use Rattle.file.specs.Layout.{net_from, slice_from}
use Rattle.file_arcs.specs.Facts.{ArcWord, arc_of}
use Rattle.file_header.specs.declared.Header.{Header}
use Rattle.file.proofs.Rows.{rising_from}
use Rattle.check_fast.specs.Pass.{Ready, joined_of, kept_of, due_of, Meets}
use Rattle.check_fast.proofs.Ends.{own-place, own-transition, due_fits, word-arc, arc-word}
use Rattle.check_fast.proofs.Walking.{good_word, word-ends, plain, plain_word, kept_here, left-out_here}
use Rattle.check_fast.proofs.Parting.{Level, level_out, level_next, parted_plan, parted_slice}

abbrev first_of : Arc → List Arc → Arc
first_of d [] = d
first_of d (a ∷ l) = a

same_arc_lem : (a b : Arc) → T (same_arc a b) → a ≡ b
unfolding same_arcs
same_arc_lem a b h = ap (first_of a) (same_arcs_lem (a ∷ []) (b ∷ []) (and_both (same_arc a b) (same_arcs [] []) h tt))

module _ (plan : List ℕ) (hp : Header) (slice : List ℕ) (hs : Header) (Q places transitions : List ℕ) (r : Ready plan hp slice hs Q places transitions) (j : ℕ) (l : j < hp.arcs) (w : ℕ) (is : ArcWord plan (hp.arcstart + 8 * j) w) (wl : w < 18446744073709551616) (z : ℕ) (sum : z ≡ joined_of w places transitions) where
  -- the word due can be made
  pub can_be_due : kept_of z ≡ true → 4398046512128 + z / 131072 % 2 * 131072 ≤ z
  can_be_due e = due_fits (good_word plan hp slice hs Q places transitions r j l w is wl).direction (plain plan hp slice hs Q places transitions r j l w is wl) (word-ends plan hp slice hs Q places transitions r j l w is wl z sum) e

  both_kept : kept_of z ≡ true → T (among (arc_of w).place (slice_from slice hs).place_origins) × T (among (arc_of w).transition (slice_from slice hs).transition_origins)
  both_kept e =
      let h = holds _ (subst (λ (a : Arc). (among a.place (slice_from slice hs).place_origins && among a.transition (slice_from slice hs).transition_origins) ≡ true) (sym is.arc) (kept_here plan hp slice hs Q places transitions r j l w is wl z sum e)) in
      (and_left (among (arc_of w).place (slice_from slice hs).place_origins) (among (arc_of w).transition (slice_from slice hs).transition_origins) h, and_right (among (arc_of w).place (slice_from slice hs).place_origins) (among (arc_of w).transition (slice_from slice hs).transition_origins) h)

  low_transition : kept_of z ≡ true → position (arc_of w).transition (slice_from slice hs).transition_origins < 65536
  low_transition e = omega (arith, own-transition plan hp slice hs Q places transitions r w wl (good_word plan hp slice hs Q places transitions r j l w is wl) (is_true _ (both_kept e).1))

  low_place : kept_of z ≡ true → position (arc_of w).place (slice_from slice hs).place_origins < 65536
  low_place e = omega (arith, own-place plan hp slice hs Q places transitions r w wl (good_word plan hp slice hs Q places transitions r j l w is wl) (is_true _ (both_kept e).0))

  light : (arc_of w).weight < 65536
  light = omega arith

  -- equal words, equal arcs
  due_there : kept_of z ≡ true → (at : ℕ) → ArcWord slice at (due_of z) → arc_at slice at ≡ renumber (slice_from slice hs).place_origins (slice_from slice hs).transition_origins (arc_at plan (hp.arcstart + 8 * j))
  due_there e at its =
      sym its.arc
      ∙ word-arc (good_word plan hp slice hs Q places transitions r j l w is wl).direction (plain plan hp slice hs Q places transitions r j l w is wl) (word-ends plan hp slice hs Q places transitions r j l w is wl z sum) e (low_transition e) (low_place e) light (due_of z) refl
      ∙ ap (renumber (slice_from slice hs).place_origins (slice_from slice hs).transition_origins) is.arc

  not_there : kept_of z ≡ true → (k : ℕ) → k < hs.arcs → (v : ℕ) → ArcWord slice (hs.arcstart + 8 * k) v → (v ≡ due_of z → ⊥)
      → same_arc (arc_at slice (hs.arcstart + 8 * k)) (renumber (slice_from slice hs).place_origins (slice_from slice hs).transition_origins (arc_at plan (hp.arcstart + 8 * j))) ≡ false
  not_there e k m v its ne =
      is_false _ (λ h. ne
      (arc-word (good_word plan hp slice hs Q places transitions r j l w is wl).direction (plain plan hp slice hs Q places transitions r j l w is wl) (word-ends plan hp slice hs Q places transitions r j l w is wl z sum) e (low_transition e) (low_place e) light v
      (plain_word slice hs r.sliced k m v its)
      (its.arc ∙ same_arc_lem _ _ h ∙ sym (ap (renumber (slice_from slice hs).place_origins (slice_from slice hs).transition_origins) is.arc))))

  module _ (k : ℕ) (x : Level plan hp slice hs j k) (n : ℕ) (m : Meets z slice hs k n) where
    pub level_met : n ≤ hs.arcs → Level plan hp slice hs (j + 1) n
    level_met h =
        by_cases (kept_of z)
        (λ e. let s = m.same e h in
        subst (Level plan hp slice hs (j + 1)) (sym s.0) (level_next plan hp slice hs j k x l (kept_here plan hp slice hs Q places transitions r j l w is wl z sum e) s.1 (due_there e _ s.2)))
        (λ e. subst (Level plan hp slice hs (j + 1)) (sym (m.out e)) (level_out plan hp slice hs j k x l (left-out_here plan hp slice hs Q places transitions r j l w is wl z sum e)))

    is_kept : hs.arcs < n → kept_of z ≡ true
    is_kept h = by_cases (kept_of z) (λ e. e) (λ e. absurd (omega (arith, m.out e, x.behind)))

    -- the first arc that is not the one due tells the transition; o is the slice's, past all where it has no arc left, and u the lower of the two
    pub parted : hs.arcs < n → (o : ℕ) → (k < hs.arcs → o ≡ get_or (slice_from slice hs).transition_origins (arc_at slice (hs.arcstart + 8 * k)).transition 0) → (hs.arcs ≤ k → o ≡ 65536)
        → (u : ℕ) → ((arc_of w).transition ≤ o → u ≡ (arc_of w).transition) → (o < (arc_of w).transition → u ≡ o) → u < hp.transitions → u ≡ breaker (rule4 (net_from plan hp) (slice_from slice hs))
    parted h o at past u low high =
        let e = is_kept h in
        let t = ap (λ (a : Arc). a.transition) is.arc in
        let up = rising_from (slice_from slice hs).transition_origins 0 (r.sliced.transition_origins r.kind) in
        let here : (arc_of w).transition ≤ o → u < hp.transitions → u ≡ breaker (rule4 (net_from plan hp) (slice_from slice hs)) =
        λ q. parted_plan plan hp slice hs r.planned r.sliced up j k x l (kept_here plan hp slice hs Q places transitions r j l w is wl z sum e)
        (λ d. omega (arith, at d, t)) (λ d. let other = m.other e h d in not_there e k d other.0 other.1 other.2) u (low q ∙ t) in
        by_order (arc_of w).transition o
        (λ d. here (omega arith))
        (λ d. here (omega arith))
        (λ d. let some : k < hs.arcs = by_order k hs.arcs (λ q. q) (λ q. absurd (omega (arith, past (omega arith), light_transition w))) (λ q. absurd (omega (arith, x.behind))) in
        parted_slice plan hp slice hs r.planned r.sliced up j k x some (λ q. omega (arith, at some, t)) u (high d ∙ at some))
      where
        light_transition : (w : ℕ) → (arc_of w).transition < 65536
        light_transition w = omega arith

-- all of the plan's arcs are gone through
module _ (plan : List ℕ) (hp : Header) (slice : List ℕ) (hs : Header) (Q places transitions : List ℕ) (r : Ready plan hp slice hs Q places transitions) (j k : ℕ) (x : Level plan hp slice hs j k) where
  pub parted_end : hp.arcs ≤ j → (o : ℕ) → (k < hs.arcs → o ≡ get_or (slice_from slice hs).transition_origins (arc_at slice (hs.arcstart + 8 * k)).transition 0) → (hs.arcs ≤ k → o ≡ 65536)
      → o < hp.transitions → o ≡ breaker (rule4 (net_from plan hp) (slice_from slice hs))
  parted_end h o at past l =
      let up = rising_from (slice_from slice hs).transition_origins 0 (r.sliced.transition_origins r.kind) in
      by_order k hs.arcs
      (λ q. parted_slice plan hp slice hs r.planned r.sliced up j k x q (λ d. absurd (omega arith)) o (at q) l)
      (λ q. absurd (omega (arith, past (omega arith), r.planned.placed.transitions)))
      (λ q. absurd (omega (arith, x.behind)))
