-- Rules 7 and 9 of one transition: its input arcs tell its input places, its output arcs its output places.
use Prim.Native.Nat.{ℕ, ◌+◌, ◌*◌, ◌≤◌, ◌<◌}
use mathlib.Core.Bool.{Bool, true, false, not, ◌&&◌}
use mathlib.Core.Path.{◌≡◌, refl, sym, ap, ◌∙◌, subst}
use mathlib.Core.List.{List}
use native.Mathlib.Omega.{arith}
use lib.Dec.{T, eqb, ltb, ltb→lt, lt→ltb, not_T, T_not}
use borrow.Author.Tests.{eq-eqb, eqb-true, eqb-false}
use lib.ListN.{length, get_or}
use Rattle.net.specs.Numbers.{among, any, selected}
use Rattle.net.specs.Net.{Net, input, output, takes_from, adds_to, capped, weight_on}
use Rattle.net.specs.Slice.{Slice}
use Rattle.net.specs.Checker.{breaks, rule7, rule9, lacks_input, lacks_output}
use Rattle.net.proofs.Numbers.{by_cases, holds, fails, is_true, is_false, and_both, and_left, and_right, same_test, any-has, any-finds, below-has, below-passes}
use Rattle.file_arcs.specs.Layout.{arc_at}
use Rattle.file.specs.Layout.{net_from, slice_from}
use Rattle.file_header.specs.declared.Header.{Header}
use Rattle.rules_tables.specs.Matched.{Matched}
use Rattle.numbering.proofs.Lookup.{left_out, is_kept, zero_entry}
use Rattle.rules_tables.proofs.Runs.{entry_most, entries-rise, weight_found, weight_there}
use Rattle.file.proofs.Rows.{good_at}
use Rattle.rules_arcs.specs.Links.{Run, Unkept}

-- t is joined in direction d with a wanted place that is not kept
abbrev lacking : Net → Slice → ℕ → (ℕ → Bool) → ℕ → Bool
lacking N S d wanted t = any (λ p. (wanted p && ltb 0 (weight_on d p t N.arcs)) && not (among p S.place_origins)) (selected (λ p. true) 0 N.places)

-- a place that is left out and has a cap, by its entry in the table of own numbers
module _ (N : Net) (p : ℕ) (ownp : List ℕ) (n : ℕ) (e : n ≡ get_or ownp p 0) where
  pub capped-here : n ≡ 0 → (c : ℕ) → c ≡ N.cap p → not (eqb c 0) ≡ (eqb (get_or ownp p 0) 0 && capped N p)
  unfolding capped
  capped-here z c q = rw (eq-eqb (get_or ownp p 0) 0 (sym e ∙ z), ← q) (same_test (not (eqb c 0)) (ltb 0 c)
      (λ h. lt→ltb 0 c (let o = eqb-false c 0 (is_false (eqb c 0) (T_not (eqb c 0) h)) in omega arith))
      (λ h. not_T (eqb c 0) (λ k. omega (arith, ltb→lt 0 c h, eqb-true c 0 (is_true (eqb c 0) k)))))

-- arcs gone through one by one, of which none so far is at such a place
module _ (plan : List ℕ) (hp : Header) (from : ℕ) (ownp : List ℕ) where
  abbrev pub hit : ℕ → Bool
  hit i = let p = (arc_at plan (hp.arcstart + 8 * i)).place in eqb (get_or ownp p 0) 0 && capped (net_from plan hp) p

  abbrev pub NoHit : ℕ → Type 0
  NoHit j = (i : ℕ) → from ≤ i → i < j → hit i ≡ false

double_not : (b : Bool) → not (not b) ≡ b
double_not true = refl
double_not false = refl

module _ (plan : List ℕ) (hp : Header) (table slice : List ℕ) (hs : Header) (ownp ownt : List ℕ) (m : Matched plan hp table slice hs ownp ownt) (t : ℕ) (l : t < hp.transitions) where
  -- a transition left out
  pub lacks_not : (n : ℕ) → n ≡ get_or ownt t 0 → n ≡ 0 → (b : Bool) → false ≡ (among t (slice_from slice hs).transition_origins && b)
  lacks_not n e z b = rw (left_out (slice_from slice hs).transition_origins ownt m.transitions t (omega (arith, m.transitions_reached)) (sym e ∙ z))

  module _ (d : ℕ) (dl : d ≤ 1) (from to : ℕ) (low : from ≡ get_or table (2 * t + d) 0) (high : to ≡ get_or table (2 * t + d + 1) 0) where
    -- what the search for a place asks
    pub arcs_run : (P : ℕ) → hp.places ≤ P → Run plan hp.arcstart from to P
    arcs_run P u =
        let p = m.planned.placed in
        let most = entry_most plan hp table m.planned m.starts (2 * t + d + 1) (omega arith) in
        record {
          rising = omega (arith, entries-rise plan hp table m.planned m.starts (2 * t + d) (2 * t + d + 1) (omega arith) (omega arith));
          fit = omega (arith, p.arcs_fit, p.origins_fit);
          short = p.short;
          reached = λ i a. omega (arith, (good_at plan hp m.planned i (omega arith)).place);
        }

    module _ (wanted : ℕ → Bool) where
      there : (r : Bool) → Unkept plan hp.arcstart from to wanted ownp r → T r → T (lacking (net_from plan hp) (slice_from slice hs) d wanted t)
      there r u h =
          let N = net_from plan hp in
          let os = (slice_from slice hs).place_origins in
          let f = u.found (is_true r h) in
          let p = (arc_at plan (hp.arcstart + 8 * f.0)).place in
          let few : f.0 < hp.arcs = omega (arith, f.2, entry_most plan hp table m.planned m.starts (2 * t + d + 1) (omega arith)) in
          let inside : p < hp.places = (good_at plan hp m.planned f.0 few).place in
          let w = weight_on d p t N.arcs in
          let some : T (ltb 0 w) = lt→ltb 0 w (weight_there plan hp table m.planned m.starts d t dl l f.0 (omega (arith, low, f.1)) (omega (arith, high, f.2))) in
          any-has (λ p. (wanted p && ltb 0 (weight_on d p t N.arcs)) && not (among p os)) (selected (λ p. true) 0 hp.places) p
          (below-has (λ p. true) hp.places p inside tt)
          (and_both (wanted p && ltb 0 w) (not (among p os)) (and_both (wanted p) (ltb 0 w) f.3 some)
          (not_T (among p os) (fails (among p os) (left_out os ownp m.places p (omega (arith, inside, m.places_reached)) f.4))))

      back : (r : Bool) → Unkept plan hp.arcstart from to wanted ownp r → T (lacking (net_from plan hp) (slice_from slice hs) d wanted t) → T r
      back r u h =
          let N = net_from plan hp in
          let os = (slice_from slice hs).place_origins in
          let f = any-finds (λ p. (wanted p && ltb 0 (weight_on d p t N.arcs)) && not (among p os)) (selected (λ p. true) 0 hp.places) h in
          let p = f.0 in
          let w = weight_on d p t N.arcs in
          let inside : p < hp.places = (below-passes (λ p. true) hp.places p f.1).0 in
          let joined : T (wanted p && ltb 0 w) = and_left (wanted p && ltb 0 w) (not (among p os)) f.2 in
          let out : among p os ≡ false = is_false (among p os) (T_not (among p os) (and_right (wanted p && ltb 0 w) (not (among p os)) f.2)) in
          let g = weight_found plan hp table m.planned m.starts d t dl l p (ltb→lt 0 w (and_right (wanted p) (ltb 0 w) joined)) in
          by_cases r (holds r)
          (λ e. absurd (u.none e g.0 (omega (arith, low, g.1)) (omega (arith, high, g.2))
          (subst (λ (q : ℕ). T (wanted q)) (sym g.3) (and_left (wanted p) (ltb 0 w) joined))
          (ap (λ (q : ℕ). get_or ownp q 0) g.3 ∙ zero_entry os ownp m.places p (omega (arith, inside, m.places_reached)) out)))

      -- a kept transition, by its arcs
      lacks : (n : ℕ) → n ≡ get_or ownt t 0 → (n ≡ 0 → ⊥) → (r : Bool) → Unkept plan hp.arcstart from to wanted ownp r
          → r ≡ (among t (slice_from slice hs).transition_origins && not (not (lacking (net_from plan hp) (slice_from slice hs) d wanted t)))
      lacks n e o r u =
          let b = lacking (net_from plan hp) (slice_from slice hs) d wanted t in
          let k : among t (slice_from slice hs).transition_origins ≡ true = is_kept (slice_from slice hs).transition_origins ownt m.transitions t (omega (arith, m.transitions_reached)) (λ z. o (e ∙ z)) in
          rw k (same_test r b (there r u) (back r u) ∙ sym (double_not b))

  -- the entries of the table by their numbers
  entry_at : (i j : ℕ) → i ≡ j → (n : ℕ) → n ≡ get_or table i 0 → n ≡ get_or table j 0
  entry_at i j e n f = f ∙ ap (λ (k : ℕ). get_or table k 0) e

  module _ (from to : ℕ) where
    -- rule 7
    module _ (ef : from ≡ get_or table (2 * t) 0) (et : to ≡ get_or table (2 * t + 1) 0) where
      low : from ≡ get_or table (2 * t + 0) 0
      low = entry_at (2 * t) (2 * t + 0) (omega arith) from ef

      high : to ≡ get_or table (2 * t + 0 + 1) 0
      high = entry_at (2 * t + 1) (2 * t + 0 + 1) (omega arith) to et

      pub inputs_run : Run plan hp.arcstart from to (length ownp)
      inputs_run = arcs_run 0 (omega arith) from to low high (length ownp) m.places_reached

      pub lacks_input_lem : (n : ℕ) → n ≡ get_or ownt t 0 → (n ≡ 0 → ⊥) → (r : Bool) → Unkept plan hp.arcstart from to (λ p. true) ownp r → r ≡ breaks (rule7 (net_from plan hp) (slice_from slice hs)) t
      unfolding breaks rule7 lacks_input takes_from input
      lacks_input_lem n e o r u = lacks 0 (omega arith) from to low high (λ p. true) n e o r u

    -- rule 9
    module _ (ef : from ≡ get_or table (2 * t + 1) 0) (et : to ≡ get_or table (2 * t + 2) 0) where
      top : to ≡ get_or table (2 * t + 1 + 1) 0
      top = entry_at (2 * t + 2) (2 * t + 1 + 1) (omega arith) to et

      pub outputs_run : Run plan hp.arcstart from to hp.places
      outputs_run = arcs_run 1 (omega arith) from to ef top hp.places (omega arith)

      pub lacks_output_lem : (n : ℕ) → n ≡ get_or ownt t 0 → (n ≡ 0 → ⊥) → (r : Bool) → Unkept plan hp.arcstart from to (capped (net_from plan hp)) ownp r → r ≡ breaks (rule9 (net_from plan hp) (slice_from slice hs)) t
      unfolding breaks rule9 lacks_output adds_to output
      lacks_output_lem n e o r u = lacks 1 (omega arith) from to ef top (capped (net_from plan hp)) n e o r u
