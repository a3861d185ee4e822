-- What passes its limit: the changes of the criterion's places, the raises of kept places, the changes of kept capped places.
use Prim.Native.Nat.{ℕ, ◌+◌, ◌-◌, ◌*◌, ◌≤◌, ◌<◌}
use mathlib.Core.Bool.{Bool, true, false, not, ◌&&◌}
use mathlib.Core.Path.{◌≡◌, refl, sym, ap, ◌∙◌, subst}
use mathlib.Core.List.{List}
use native.Mathlib.Omega.{arith}
use lib.Dec.{T, eqb, ltb, ltb→lt}
use lib.ListN.{length, get_or}
use borrow.Author.Tests.{lt-ltb, le-ltb, eq-eqb, ne_eqb, eqb-true, eqb-false, ltb-true, ltb-false}
use Rattle.net.specs.Numbers.{among, any, selected, first}
use Rattle.net.specs.Net.{Net, input, output, changes, raises, capped}
use Rattle.net.specs.Checker.{breaks, breaker, rule6, rule8, rule10}
use Rattle.net.proofs.Numbers.{first-same, by_cases, and_both, and_left, and_right, same_test, any-has, any-finds, below-has, below-passes}
use Rattle.file_words.specs.Word.{byte_at}
use Rattle.file.specs.Layout.{net_from, slice_from}
use Rattle.file.specs.Criterion.{criterion_refusal}
use Rattle.file_header.specs.declared.Header.{Header}
use Rattle.file.proofs.Criterion.{passed}
use Rattle.arcs_column.specs.Gain.{pulls}
use Rattle.numbering.specs.Own.{Own}
use Rattle.rules_tables.specs.Matched.{Matched}
use Rattle.numbering.proofs.Lookup.{left_out, is_kept}
use Rattle.rules_tables.proofs.Caps.{capped-known}
use Rattle.rules_tables.proofs.Runs.{entry_most, weight_found}
use Rattle.file.proofs.Rows.{good_at}
use Rattle.rules_effects.specs.Movers.{limit_on, change_limit, moved}
use Rattle.rules_effects.proofs.Moving.{weight_most}

-- nothing passes 2 ^ 32 - 1
pub pulls-never : (g : ℕ) → g < 4294967296 → pulls 4294967295 g ≡ false
pulls-never g l = rw (le-ltb 4294967295 g (omega arith))

-- every change passes 0
pub pulls-changed : (i o : ℕ) → i ≤ 268435456 → pulls 0 (1073741824 + o - i) ≡ not (eqb i o)
pulls-changed i o l =
    rw (lt-ltb 0 (1073741824 + o - i) (omega arith)) (ap not (by_cases (eqb i o)
    (λ e. eq-eqb (1073741824 + o - i) 1073741824 (omega (arith, eqb-true i o e)) ∙ sym e)
    (λ e. ne_eqb (1073741824 + o - i) 1073741824 (λ z. eqb-false i o e (omega arith)) ∙ sym e)))

-- every raise passes 2 ^ 30
pub pulls-raised : (i o : ℕ) → i ≤ 268435456 → pulls 1073741824 (1073741824 + o - i) ≡ ltb i o
pulls-raised i o l =
    by_cases (ltb i o)
    (λ e. let u = ltb-true i o e in
    rw (e, lt-ltb 1073741824 (1073741824 + o - i) (omega arith), ne_eqb (1073741824 + o - i) 1073741824 (λ z. omega arith)))
    (λ e. let u = ltb-false i o e in rw (e, le-ltb 1073741824 (1073741824 + o - i) (omega arith)))

and_again : (a b c : Bool) → ((a && b) && c) ≡ (a && (b && c))
and_again true b c = refl
and_again false b c = refl

-- the places of a list that t acts on are those that pass their limit
module _ (N : Net) (limit : List ℕ) (t : ℕ) (L : List ℕ) (acts : ℕ → Bool)
    (same : (p : ℕ) → p < N.places → pulls (get_or limit p 0) (1073741824 + output N p t - input N p t) ≡ (among p L && acts p))
    (within : (p : ℕ) → T (among p L) → T (acts p) → p < N.places) where
  there : T (moved N limit t) → T (any acts L)
  unfolding moved
  there h =
      let f = any-finds (λ p. pulls (get_or limit p 0) (1073741824 + output N p t - input N p t)) (selected (λ p. true) 0 N.places) h in
      let both : T (among f.0 L && acts f.0) = subst T (same f.0 (below-passes (λ p. true) N.places f.0 f.1).0) f.2 in
      any-has acts L f.0 (and_left (among f.0 L) (acts f.0) both) (and_right (among f.0 L) (acts f.0) both)

  back : T (any acts L) → T (moved N limit t)
  unfolding moved
  back h =
      let f = any-finds acts L h in
      let l : f.0 < N.places = within f.0 f.1 f.2 in
      any-has (λ p. pulls (get_or limit p 0) (1073741824 + output N p t - input N p t)) (selected (λ p. true) 0 N.places) f.0
      (below-has (λ p. true) N.places f.0 l tt)
      (subst T (sym (same f.0 l)) (and_both (among f.0 L) (acts f.0) f.1 f.2))

  moved_as : moved N limit t ≡ any acts L
  moved_as = same_test (moved N limit t) (any acts L) there back

module _ (plan : List ℕ) (hp : Header) (table slice : List ℕ) (hs : Header) (ownp ownt : List ℕ) (m : Matched plan hp table slice hs ownp ownt) (bytes : (i : ℕ) → byte_at plan i < 256) (limit : List ℕ) where
  pub input-most : (p t : ℕ) → t < hp.transitions → input (net_from plan hp) p t ≤ 268435456
  unfolding input
  input-most p t l = weight_most plan hp table m.planned m.starts bytes 0 p t (omega arith) l

  pub output-most : (p t : ℕ) → t < hp.transitions → output (net_from plan hp) p t ≤ 268435456
  unfolding output
  output-most p t l = weight_most plan hp table m.planned m.starts bytes 1 p t (omega arith) l

  -- ---- rule 6
  module _ (Q : List ℕ) (e : criterion_refusal hp.places Q ≡ 0) (limits : (p : ℕ) → p < hp.places → get_or limit p 0 ≡ limit_on (among p Q) 0 4294967295) where
    changed : (t : ℕ) → t < hp.transitions → (p : ℕ) → p < hp.places
        → pulls (get_or limit p 0) (1073741824 + output (net_from plan hp) p t - input (net_from plan hp) p t) ≡ (among p Q && changes (net_from plan hp) t p)
    unfolding changes
    changed t l p u =
        let i = input (net_from plan hp) p t in
        let o = output (net_from plan hp) p t in
        by_cases (among p Q)
        (λ k. ap (λ (n : ℕ). pulls n (1073741824 + o - i)) (limits p u ∙ ap (λ (b : Bool). limit_on b 0 4294967295) k) ∙ pulls-changed i o (input-most p t l) ∙ sym (ap (λ (b : Bool). b && not (eqb i o)) k))
        (λ k. ap (λ (n : ℕ). pulls n (1073741824 + o - i)) (limits p u ∙ ap (λ (b : Bool). limit_on b 0 4294967295) k) ∙ pulls-never (1073741824 + o - i) (omega (arith, output-most p t l)) ∙ sym (ap (λ (b : Bool). b && not (eqb i o)) k))

    pub first-changer : (r : ℕ) → r ≡ first (λ t. moved (net_from plan hp) limit t && not (among t (slice_from slice hs).transition_origins)) 0 hp.transitions
        → r ≡ breaker (rule6 (net_from plan hp) (slice_from slice hs) Q)
    unfolding breaker breaks rule6
    first-changer r q =
        q ∙ first-same _ _ 0 hp.transitions (λ t a l. ap (λ (b : Bool). b && not (among t (slice_from slice hs).transition_origins))
        (moved_as (net_from plan hp) limit t Q (changes (net_from plan hp) t) (changed t (omega arith)) (λ p k c. (passed hp.places Q e).known p k)))

  -- ---- rule 8
  module _ (limits : (p : ℕ) → p < hp.places → get_or limit p 0 ≡ limit_on (eqb (get_or ownp p 0) 0) 4294967295 1073741824) where
    pub limit_is : (p : ℕ) → p < hp.places → get_or limit p 0 ≡ limit_on (among p (slice_from slice hs).place_origins) 1073741824 4294967295
    limit_is p u =
        by_cases (eqb (get_or ownp p 0) 0)
        (λ z. limits p u ∙ rw (z, left_out (slice_from slice hs).place_origins ownp m.places p (omega (arith, m.places_reached)) (eqb-true _ _ z)))
        (λ z. limits p u ∙ rw (z, is_kept (slice_from slice hs).place_origins ownp m.places p (omega (arith, m.places_reached)) (eqb-false _ _ z)))

    raised : (t : ℕ) → t < hp.transitions → (p : ℕ) → p < hp.places
        → pulls (get_or limit p 0) (1073741824 + output (net_from plan hp) p t - input (net_from plan hp) p t) ≡ (among p (slice_from slice hs).place_origins && raises (net_from plan hp) t p)
    unfolding raises
    raised t l p u =
        let i = input (net_from plan hp) p t in
        let o = output (net_from plan hp) p t in
        by_cases (among p (slice_from slice hs).place_origins)
        (λ k. ap (λ (n : ℕ). pulls n (1073741824 + o - i)) (limit_is p u ∙ ap (λ (b : Bool). limit_on b 1073741824 4294967295) k) ∙ pulls-raised i o (input-most p t l) ∙ sym (ap (λ (b : Bool). b && ltb i o) k))
        (λ k. ap (λ (n : ℕ). pulls n (1073741824 + o - i)) (limit_is p u ∙ ap (λ (b : Bool). limit_on b 1073741824 4294967295) k) ∙ pulls-never (1073741824 + o - i) (omega (arith, output-most p t l)) ∙ sym (ap (λ (b : Bool). b && ltb i o) k))

    -- a place that is raised has an arc
    pub raised-known : (t : ℕ) → t < hp.transitions → (p : ℕ) → T (raises (net_from plan hp) t p) → p < hp.places
    unfolding raises output
    raised-known t l p k =
        let w = ltb→lt (input (net_from plan hp) p t) (output (net_from plan hp) p t) k in
        let f = weight_found plan hp table m.planned m.starts 1 t (omega arith) l p (omega arith) in
        let g = good_at plan hp m.planned f.0 (omega (arith, f.2, entry_most plan hp table m.planned m.starts (2 * t + 1 + 1) (omega arith))) in
        omega (arith, g.place, f.3)

    pub first-raiser : (r : ℕ) → r ≡ first (λ t. moved (net_from plan hp) limit t && not (among t (slice_from slice hs).transition_origins)) 0 hp.transitions
        → r ≡ breaker (rule8 (net_from plan hp) (slice_from slice hs))
    unfolding breaker breaks rule8
    first-raiser r q =
        q ∙ first-same _ _ 0 hp.transitions (λ t a l. ap (λ (b : Bool). b && not (among t (slice_from slice hs).transition_origins))
        (moved_as (net_from plan hp) limit t (slice_from slice hs).place_origins (raises (net_from plan hp) t) (raised t (omega arith)) (λ p k c. raised-known t (omega arith) p c)))

  -- ---- rule 10
  module _ (limits : (p : ℕ) → p < hp.places → get_or limit p 0 ≡ change_limit (get_or ownp p 0) ((net_from plan hp).cap p)) where
    -- the limit of a place that is kept and capped, and of the others
    cap_limit : (p : ℕ) → p < hp.places → get_or limit p 0 ≡ limit_on (among p (slice_from slice hs).place_origins && capped (net_from plan hp) p) 0 4294967295
    unfolding capped
    cap_limit p u =
        let n = (net_from plan hp).cap p in
        let own = get_or ownp p 0 in
        by_cases (eqb own 0)
        (λ z. limits p u ∙ rw (z, left_out (slice_from slice hs).place_origins ownp m.places p (omega (arith, m.places_reached)) (eqb-true own 0 z)))
        (λ z. let kept = is_kept (slice_from slice hs).place_origins ownp m.places p (omega (arith, m.places_reached)) (eqb-false own 0 z) in
        by_cases (eqb n 0)
        (λ y. limits p u ∙ rw (z, y, kept, le-ltb 0 n (omega (arith, eqb-true n 0 y))))
        (λ y. limits p u ∙ rw (z, y, kept, lt-ltb 0 n (let o = eqb-false n 0 y in omega arith))))

    cap_changed : (t : ℕ) → t < hp.transitions → (p : ℕ) → p < hp.places
        → pulls (get_or limit p 0) (1073741824 + output (net_from plan hp) p t - input (net_from plan hp) p t) ≡ (among p (slice_from slice hs).place_origins && (capped (net_from plan hp) p && changes (net_from plan hp) t p))
    unfolding changes
    cap_changed t l p u =
        let i = input (net_from plan hp) p t in
        let o = output (net_from plan hp) p t in
        let kept = among p (slice_from slice hs).place_origins in
        let bound = capped (net_from plan hp) p in
        by_cases (kept && bound)
        (λ k. ap (λ (n : ℕ). pulls n (1073741824 + o - i)) (cap_limit p u ∙ ap (λ (b : Bool). limit_on b 0 4294967295) k) ∙ pulls-changed i o (input-most p t l) ∙ sym (ap (λ (b : Bool). b && not (eqb i o)) k) ∙ and_again kept bound (not (eqb i o)))
        (λ k. ap (λ (n : ℕ). pulls n (1073741824 + o - i)) (cap_limit p u ∙ ap (λ (b : Bool). limit_on b 0 4294967295) k) ∙ pulls-never (1073741824 + o - i) (omega (arith, output-most p t l)) ∙ sym (ap (λ (b : Bool). b && not (eqb i o)) k) ∙ and_again kept bound (not (eqb i o)))

    pub first-cap_changer : (r : ℕ) → r ≡ first (λ t. moved (net_from plan hp) limit t && not (among t (slice_from slice hs).transition_origins)) 0 hp.transitions
        → r ≡ breaker (rule10 (net_from plan hp) (slice_from slice hs))
    unfolding breaker breaks rule10
    first-cap_changer r q =
        q ∙ first-same _ _ 0 hp.transitions (λ t a l. ap (λ (b : Bool). b && not (among t (slice_from slice hs).transition_origins))
        (moved_as (net_from plan hp) limit t (slice_from slice hs).place_origins (λ p. capped (net_from plan hp) p && changes (net_from plan hp) t p) (cap_changed t (omega arith))
        (λ p k c. capped-known plan hp p (and_left (capped (net_from plan hp) p) (changes (net_from plan hp) t p) c))))

-- ---- only transitions left out count

module _ (os ownt : List ℕ) (o : Own os ownt) (t : ℕ) (l : t < length ownt) (n : ℕ) (e : n ≡ get_or ownt t 0) where
  pub when_kept : (n ≡ 0 → ⊥) → (v : Bool) → false ≡ (v && not (among t os))
  when_kept z v = go v (among t os) (is_kept os ownt o t l (λ q. z (e ∙ q)))
    where
      go : (v b : Bool) → b ≡ true → false ≡ (v && not b)
      go true true q = refl
      go false true q = refl
      go v false q = absurd (let z : ◌≡◌ {A = ℕ} 0 1 = cc in omega arith)

  pub when_left_out : n ≡ 0 → (v r : Bool) → r ≡ v → r ≡ (v && not (among t os))
  when_left_out z v r q = q ∙ go v (among t os) (left_out os ownt o t l (sym e ∙ z))
    where
      go : (v b : Bool) → b ≡ false → v ≡ (v && not b)
      go true false q = refl
      go false false q = refl
      go v true q = absurd (let z : ◌≡◌ {A = ℕ} 0 1 = cc in omega arith)

-- the limits have an entry for each place of the criterion
pub criterion_fits : (P : ℕ) (Q : List ℕ) → criterion_refusal P Q ≡ 0 → (n : ℕ) → P ≤ n → (i : ℕ) → i < length Q → get_or Q i 0 < n
criterion_fits P Q e n l i u = omega (arith, (passed P Q e).known_at i u)
