-- A list fires exactly from the markings that cover its need, so the least and the largest marking of a range tell about all of it.
use Prim.Native.Nat.{ℕ, ◌+◌, ◌*◌, ◌<◌, ◌≤◌}
use mathlib.Core.Bool.{Bool, true, false, not}
use mathlib.Core.List.{List, [], ◌∷◌}
use mathlib.Core.Path.{◌≡◌, refl, ap}
use mathlib.Core.Logic.{◌↔◌}
use native.Mathlib.Omega.{arith}
use lib.ListN.{length}
use lib.Dec.{T, eqb, ltb, eqb_refl}
use borrow.Author.Tests.{lt-ltb, ltb-true, ltb-false}
use Rattle.net.specs.Numbers.{among, any, selected}
use Rattle.net.specs.Net.{Marking, Net, input, output, fire, Uncapped, Supplied, Enabled, Fires, after}
use Rattle.net.specs.Range
use Rattle.net.proofs.Numbers.{by_cases, holds, is_true, fails, is_false, or_left, or_right, any-has, any-finds, below-passes, below-has}
use Rattle.net.proofs.Uncapped.{uncapped_enabled}

-- ---- the need

pub fires_need : (N : Net) → Uncapped N → (M : Marking) (ts : List ℕ) → ((t : ℕ) → T (among t ts) → t < N.transitions) → Fires N M ts ↔ Range.Covers N M (Range.need N ts)
unfolding Fires Range.need Range.Covers Supplied Enabled fire
fires_need N none M [] known = (λ f p l. omega arith, λ h. tt)
fires_need N none M (t ∷ ts) known =
    let rest = fires_need N none (fire N t M) ts (λ u h. known u (unfold among in or_right (eqb u t) (among u ts) h)) in (
      λ f p l. omega (arith, f.1.0 p l, rest.0 f.2 p l),
      λ h. (
        known t (unfold among in or_left (eqb t t) (among t ts) (eqb_refl t)),
        uncapped_enabled N none t M (λ p l. omega (arith, h p l)),
        rest.1 (λ p l. omega (arith, h p l)),
      ),
    )

-- a firing adds an input at most
pub need_low : (N : Net) (b : ℕ) → ((p t : ℕ) → input N p t ≤ b) → (ts : List ℕ) (p : ℕ) → Range.need N ts p ≤ b * length ts
unfolding Range.need
need_low N b small [] p = omega arith
need_low N b small (t ∷ ts) p = omega (arith, small p t, need_low N b small ts p)

-- and leaves an output more at most
pub after-low : (N : Net) (b : ℕ) → ((p t : ℕ) → output N p t ≤ b) → (M : Marking) (ts : List ℕ) (p : ℕ) → after N M ts p ≤ M p + b * length ts
unfolding after fire
after-low N b small M [] p = omega arith
after-low N b small M (t ∷ ts) p = omega (arith, small p t, after-low N b small (fire N t M) ts p)

-- the entries of a list that holds the need on its places are a need too
pub needs : (N : Net) → Uncapped N → (ts : List ℕ) → ((t : ℕ) → T (among t ts) → t < N.transitions)
    → (needed : Marking) → ((p : ℕ) → p < N.places → needed p ≡ Range.need N ts p) → Range.Needs N ts needed
unfolding Range.Covers
needs N none ts known needed same =
    let law : (M : Marking) → Fires N M ts ↔ Range.Covers N M (Range.need N ts) = λ M. fires_need N none M ts known in
    record {
      exactly = λ M. (λ f p l. omega (arith, (law M).0 f p l, same p l), λ h. (law M).1 (λ p l. omega (arith, h p l, same p l)));
      itself = (law needed).1 (λ p l. omega (arith, same p l));
      least = λ M f p l. omega (arith, (law M).0 f p l, same p l);
    }

pub more_is_enough : (N : Net) (ts : List ℕ) (needed : Marking) → Range.Needs N ts needed → Range.MoreIsEnough N ts
unfolding Range.Covers
more_is_enough N ts needed x = record { more = λ M M' c f. (x.exactly M').1 (λ p l. omega (arith, (x.exactly M).0 f p l, c p l)) }

-- ---- the test

module _ (N : Net) (M needed : Marking) where
  abbrev lacks : ℕ → Bool
  lacks p = ltb (M p) (needed p)

  abbrev all : List ℕ
  all = selected (λ p. true) 0 N.places

  pub covers-is : Range.Covers N M needed → Range.covers N M needed ≡ true
  unfolding Range.Covers Range.covers
  covers-is h = ap not (is_false (any lacks all) (λ x.
      let f = any-finds lacks all x in
      let l = (below-passes (λ p. true) N.places f.0 f.1).0 in
      let u = ltb-true (M f.0) (needed f.0) (is_true (lacks f.0) f.2) in
      omega (arith, h f.0 l)))

  -- a place that has fewer tokens
  pub lacks_is : (p : ℕ) → p < N.places → M p < needed p → Range.covers N M needed ≡ false
  unfolding Range.covers
  lacks_is p l u = ap not (is_true (any lacks all) (any-has lacks all p (below-has (λ p. true) N.places p l tt) (holds (lacks p) (lt-ltb (M p) (needed p) u))))

  -- what the test says
  pub covers-yes : Range.covers N M needed ≡ true → Range.Covers N M needed
  unfolding Range.Covers
  covers-yes e p l = by_cases (lacks p)
      (λ u. absurd (fails _ (lacks_is p l (ltb-true (M p) (needed p) u)) (holds _ e)))
      (λ u. ltb-false (M p) (needed p) u)

-- ---- the range

module _ (N : Net) (none : Uncapped N) (upper : Marking) (ts : List ℕ) (known : (t : ℕ) → T (among t ts) → t < N.transitions)
    (rises : Range.Covers N upper N.marking) where
  abbrev Needed : Marking
  Needed = Range.need N ts

  -- the least and the largest marking of the range
  lowest : Range.Between N upper N.marking
  unfolding Range.Between Range.Covers
  lowest p l = (omega arith, rises p l)

  highest : Range.Between N upper upper
  unfolding Range.Between Range.Covers
  highest p l = (rises p l, omega arith)

  -- a list that fires from a marking fires from one that covers it
  from_lowest : Range.covers N N.marking Needed ≡ true → Range.FromEvery N upper ts
  unfolding Range.Between Range.Covers
  from_lowest e M b = (fires_need N none M ts known).1 (λ p l. omega (arith, covers-yes N N.marking Needed e p l, (b p l).0))

  not-lowest : Range.covers N N.marking Needed ≡ false → ¬ Fires N N.marking ts
  not-lowest e f = fails _ e (holds _ (covers-is N N.marking Needed ((fires_need N none N.marking ts known).0 f)))

  from_highest : Range.covers N upper Needed ≡ true → Fires N upper ts
  from_highest e = (fires_need N none upper ts known).1 (covers-yes N upper Needed e)

  not-highest : Range.covers N upper Needed ≡ false → Range.FromNone N upper ts
  unfolding Range.Between Range.Covers
  not-highest e M b f = fails _ e (holds _ (covers-is N upper Needed (λ p l. omega (arith, (fires_need N none M ts known).0 f p l, (b p l).1))))

  -- what each extent means
  Means : Range.Extent → Type 0
  Means Range.every = Range.FromEvery N upper ts
  Means Range.partly = Range.FromSome N upper ts
  Means Range.never = Range.FromNone N upper ts

  means : Means (Range.extent N upper ts)
  unfolding Range.extent Means
  means =
      by_cases (Range.covers N N.marking Needed)
      (λ e. rw (e, Range.extent) (from_lowest e))
      (λ e. by_cases (Range.covers N upper Needed)
      (λ u. rw (e, u, Range.extent) ((upper, highest, from_highest u), (N.marking, lowest, not-lowest e)))
      (λ u. rw (e, u, Range.extent) (not-highest u)))

  -- no two extents mean what is so
  one-every : (x : Range.Extent) → Means x → Range.FromEvery N upper ts → x ≡ Range.every
  unfolding Means
  one-every Range.every m f = refl
  one-every Range.partly m f = absurd (m.1.2 (f m.1.0 m.1.1))
  one-every Range.never m f = absurd (m N.marking lowest (f N.marking lowest))

  one-partly : (x : Range.Extent) → Means x → Range.FromSome N upper ts → x ≡ Range.partly
  unfolding Means
  one-partly Range.every m f = absurd (f.1.2 (m f.1.0 f.1.1))
  one-partly Range.partly m f = refl
  one-partly Range.never m f = absurd (m f.0.0 f.0.1 f.0.2)

  one-never : (x : Range.Extent) → Means x → Range.FromNone N upper ts → x ≡ Range.never
  unfolding Means
  one-never Range.every m f = absurd (f N.marking lowest (m N.marking lowest))
  one-never Range.partly m f = absurd (f m.0.0 m.0.1 m.0.2)
  one-never Range.never m f = refl

  meant : {x : Range.Extent} → Range.extent N upper ts ≡ x → Means x
  meant e = rw e at means

  pub every_means : (Range.extent N upper ts ≡ Range.every) ↔ Range.FromEvery N upper ts
  unfolding Means
  every_means = (λ e. meant e, λ f. one-every _ means f)

  pub partly_means : (Range.extent N upper ts ≡ Range.partly) ↔ Range.FromSome N upper ts
  unfolding Means
  partly_means = (λ e. meant e, λ f. one-partly _ means f)

  pub never_means : (Range.extent N upper ts ≡ Range.never) ↔ Range.FromNone N upper ts
  unfolding Means
  never_means = (λ e. meant e, λ f. one-never _ means f)
