-- A net without caps: the firing rule, the growth of the cuts and the checker's rules are those without caps.
use Prim.Native.Nat.{ℕ, ◌<◌, ◌≤◌}
use mathlib.Core.Bool.{Bool, true, false, not, ◌&&◌, ◌||◌}
use mathlib.Core.List.{List}
use mathlib.Core.Path.{◌≡◌, refl, ◌∙◌}
use native.Mathlib.Omega.{arith}
use lib.ListN.{length, get_or}
use lib.Dec.{T, eqb, ltb, not_T}
use borrow.Author.Tests.{lt-ltb, ltb-true, ltb-false}
use Rattle.net.specs.Numbers.{among, position, any, selected}
use Rattle.net.specs.Net.{Marking, Net, changes, takes_from, adds_to, capped, has_caps, Uncapped, WithinCaps, Supplied, Enabled, fire}
use Rattle.net.specs.Cut.{Growth, growth}
use Rattle.net.specs.Slice.{Slice, keeping}
use Rattle.net.specs.Checker.{Rule, lacks_output, rule3, rule9, rule10, Holds}
use Rattle.net.proofs.Numbers.{by_cases, holds, is_true, fails, is_false, and_left, any-has, any-finds, below-passes, below-has}
use Rattle.net.proofs.Markings.{below_at, below-off}

or_none : (b : Bool) → b || false ≡ b
or_none true = refl
or_none false = refl

and_all : (b : Bool) → b && true ≡ b
and_all true = refl
and_all false = refl

-- whether some place has a cap
module _ (N : Net) where
  pub has_cap : (p : ℕ) → p < N.places → 0 < N.cap p → has_caps N ≡ true
  unfolding has_caps capped
  has_cap p l c =
      let all = selected (λ p. true) 0 N.places in
      is_true (any (capped N) all) (any-has (capped N) all p (below-has (λ p. true) N.places p l tt) (holds (ltb 0 (N.cap p)) (lt-ltb 0 (N.cap p) c)))

  pub has_none : ((p : ℕ) → p < N.places → N.cap p ≡ 0) → has_caps N ≡ false
  unfolding has_caps capped
  has_none none =
      let all = selected (λ p. true) 0 N.places in
      is_false (any (capped N) all) (λ h.
      let f = any-finds (capped N) all h in
      let c = ltb-true 0 (N.cap f.0) (is_true (ltb 0 (N.cap f.0)) f.2) in
      omega (arith, none f.0 (below-passes (λ p. true) N.places f.0 f.1).0))

  -- of a net that has caps on its places only
  pub none_capped : ((p : ℕ) → N.places ≤ p → N.cap p ≡ 0) → has_caps N ≡ false → Uncapped N
  unfolding Uncapped
  none_capped off e p = by_cases (ltb p N.places)
      (λ l. by_cases (ltb 0 (N.cap p))
      (λ c. absurd (fails (has_caps N) e (holds (has_caps N) (has_cap p (ltb-true p N.places l) (ltb-true 0 (N.cap p) c)))))
      (λ c. omega (arith, ltb-false 0 (N.cap p) c)))
      (λ l. off p (ltb-false p N.places l))

-- how a cut grows without caps
abbrev pub plain : Net → List ℕ → (ℕ → ℕ → Bool) → Growth
plain N Q draws = record { places = N.places; transitions = N.transitions; criterion = Q; draws = draws; needs = takes_from N }

-- rule 3 without caps
abbrev pub same_markings : Net → Slice → Rule
same_markings N S = record { range = N.places; premise = λ p. among p S.place_origins; conclusion = λ p. eqb (S.net.marking (position p S.place_origins)) (N.marking p) }

module _ (N : Net) (none : Uncapped N) where
  pub no_cap : (p : ℕ) → capped N p ≡ false
  unfolding Uncapped capped
  no_cap p = rw (none p)

  pub not-capped : (p : ℕ) → ¬ T (capped N p)
  not-capped p = fails (capped N p) (no_cap p)

  -- firing
  pub within_caps : (M : Marking) → WithinCaps N M
  unfolding WithinCaps
  within_caps M p l c = absurd (not-capped p c)

  pub uncapped_enabled : (t : ℕ) (M : Marking) → Supplied N t M → Enabled N t M
  unfolding Enabled
  uncapped_enabled t M s = (s, within_caps (fire N t M))

  -- a part of it has none either
  pub uncapped_keeping : (ps ts : List ℕ) → Uncapped (keeping N ps ts).net
  unfolding Uncapped keeping
  uncapped_keeping ps ts p = by_cases (ltb p (length ps))
      (λ e. below_at (length ps) _ p (ltb-true p (length ps) e) ∙ none (get_or ps p 0))
      (λ e. below-off (length ps) _ p (ltb-false p (length ps) e))

  -- cuts
  module _ (Q : List ℕ) (draws : ℕ → ℕ → Bool) where
    pub uncapped_draws : (p t : ℕ) → (growth N Q draws).draws p t ≡ draws p t
    unfolding growth
    uncapped_draws p t = rw (no_cap p) (or_none (draws p t))

    pub uncapped_needs : (t p : ℕ) → (growth N Q draws).needs t p ≡ takes_from N t p
    unfolding growth
    uncapped_needs t p = rw (no_cap p) (or_none (takes_from N t p))

    pub uncapped_growth : growth N Q draws ≡ plain N Q draws
    unfolding growth
    uncapped_growth = λ i. record { places = N.places; transitions = N.transitions; criterion = Q; draws = λ p t. uncapped_draws p t i; needs = λ t p. uncapped_needs t p i }

  -- rules
  module _ (S : Slice) where
    pub uncapped_rule3 : Uncapped S.net → rule3 N S ≡ same_markings N S
    unfolding rule3 Uncapped
    uncapped_rule3 none' = λ i. record { range = N.places; premise = λ p. among p S.place_origins; conclusion = λ p. at p i }
      where
        at : (p : ℕ) → let k = position p S.place_origins in eqb (S.net.marking k) (N.marking p) && eqb (S.net.cap k) (N.cap p) ≡ eqb (S.net.marking k) (N.marking p)
        at p = rw (none p, none' (position p S.place_origins)) (and_all (eqb (S.net.marking (position p S.place_origins)) (N.marking p)))

    pub uncapped_rule9 : Holds (rule9 N S)
    unfolding Holds rule9 lacks_output
    uncapped_rule9 t l k = not_T (lacks_output N S t) (λ h.
        let f = any-finds (λ p. (capped N p && adds_to N t p) && not (among p S.place_origins)) (selected (λ p. true) 0 N.places) h in
        not-capped f.0 (and_left (capped N f.0) (adds_to N t f.0) (and_left (capped N f.0 && adds_to N t f.0) (not (among f.0 S.place_origins)) f.2)))

    pub uncapped_rule10 : Holds (rule10 N S)
    unfolding Holds rule10
    uncapped_rule10 t l k = let f = any-finds (λ p. capped N p && changes N t p) S.place_origins k in absurd (not-capped f.0 (and_left (capped N f.0) (changes N t f.0) f.2))
