-- How often inputs can be taken together: what `together` computes is the largest number of times.
use Prim.Native.Nat.{ℕ, zero, suc, ◌+◌, ◌*◌, ◌/◌, min, ◌<◌, ◌≤◌}
use mathlib.Core.Bool.{true}
use mathlib.Core.Path.{◌≡◌, refl, ap, subst}
use native.Mathlib.Omega.{arith}
use native.Mathlib.Decide.{dec_lt, ℕ_discrete}
use native.Mathlib.Nat.{mul-le-mul_right, lt_of_mul-lt-mul_right, div-mul-le_self, lt-div-mul-add}
use borrow.Author.Tests.{ltb-true, ltb-false}
use Rattle.net.specs.Numbers.{selected}
use Rattle.net.specs.Net.{Marking, Net, input, takes_from}
use Rattle.net.specs.Together
use Rattle.net.proofs.Numbers.{by_cases}

module _ (N : Net) (t : ℕ) (M : Marking) where
  -- what a number of takings says of the n places from a on
  abbrev Fits : ℕ → ℕ → ℕ → Type 0
  Fits a n k = (p : ℕ) → a ≤ p → p < a + n → k * input N p t ≤ M p

  abbrev Stops : ℕ → ℕ → ℕ → Type 0
  Stops a n k = (p : ℕ) × (a ≤ p) × (p < a + n) × (M p < suc k * input N p t)

  abbrev Free : ℕ → ℕ → Type 0
  Free a n = (p : ℕ) → a ≤ p → p < a + n → input N p t ≡ 0

  abbrev Means : ℕ → ℕ → Together.Takings → Type 0
  Means a n (Together.times k) = Fits a n k × Stops a n k
  Means a n Together.unlimited = Free a n

  -- fewer takings fit where more do
  fewer-fit : (p k l : ℕ) → k ≤ l → l * input N p t ≤ M p → k * input N p t ≤ M p
  fewer-fit p k l u f = omega (arith, mul-le-mul_right (input N p t) u)

  none_fits : (p k : ℕ) → input N p t ≡ 0 → k * input N p t ≡ 0
  none_fits p k e = rw e (omega arith)

  -- the place a and those after it
  from_first : (B : ℕ → Type 0) (a n : ℕ) → B a → ((p : ℕ) → suc a ≤ p → p < suc a + n → B p) → (p : ℕ) → a ≤ p → p < a + suc n → B p
  from_first B a n x f p u v = go (ℕ_discrete a p)
    where
      go : Dec (a ≡ p) → B p
      go (yes e) = subst B e x
      go (no e) = f p (omega arith) (omega arith)

  both : (a n : ℕ) (x y : Together.Takings) → Means a 1 x → Means (suc a) n y → Means a (suc n) (Together.fewer x y)
  both a n Together.unlimited Together.unlimited f g = from_first (λ p. input N p t ≡ 0) a n (f a (omega arith) (omega arith)) g
  both a n Together.unlimited (Together.times l) f g = (
    from_first (λ p. l * input N p t ≤ M p) a n (omega (arith, none_fits a l (f a (omega arith) (omega arith)))) g.0,
    (g.1.0, omega (arith, g.1.1), omega (arith, g.1.2), g.1.3),
  )
  both a n (Together.times k) Together.unlimited f g = (
    from_first (λ p. k * input N p t ≤ M p) a n (f.0 a (omega arith) (omega arith)) (λ p u v. omega (arith, none_fits p k (g p u v))),
    (f.1.0, f.1.1, omega (arith, f.1.2), f.1.3),
  )
  both a n (Together.times k) (Together.times l) f g = (
    from_first (λ p. min k l * input N p t ≤ M p) a n (fewer-fit a (min k l) k (omega arith) (f.0 a (omega arith) (omega arith))) (λ p u v. fewer-fit p (min k l) l (omega arith) (g.0 p u v)),
    stops (dec_lt k l),
  )
    where
      stops : Dec (k < l) → Stops a (suc n) (min k l)
      stops (yes u) = let e : min k l ≡ k = omega arith in rw e (f.1.0, f.1.1, omega (arith, f.1.2), f.1.3)
      stops (no u) = let e : min k l ≡ l = omega arith in rw e (g.1.0, omega (arith, g.1.1), omega (arith, g.1.2), g.1.3)

  -- one place
  alone : (a p : ℕ) → a ≤ p → p < a + 1 → a ≡ p
  alone a p u v = omega arith

  at_place : (a : ℕ) → Means a 1 (Together.allowed N t M a)
  unfolding Together.allowed takes_from
  at_place a =
      by_cases (takes_from N t a)
      (λ e. rw (e, Together.allowed) (
        (λ p u v. fewer-fit p _ (M a / input N a t) (omega arith) (subst (λ (q : ℕ). M a / input N a t * input N q t ≤ M q) (alone a p u v) (div-mul-le_self (M a) (input N a t)))),
        (a, omega arith, omega arith, omega (arith, lt-div-mul-add {a = M a} {b = input N a t} (ltb-true 0 (input N a t) e))),
      ))
      (λ e. rw (e, Together.allowed) (λ p u v. subst (λ (q : ℕ). input N q t ≡ 0) (alone a p u v) (omega (arith, ltb-false 0 (input N a t) e))))

  means_from : (a n : ℕ) → Means a n (Together.fewest N t M (selected (λ p. true) a n))
  unfolding Together.fewest selected
  means_from a zero = λ p u v. absurd (omega arith)
  means_from a (suc n) = both a n (Together.allowed N t M a) (Together.fewest N t M (selected (λ p. true) (suc a) n)) (at_place a) (means_from (suc a) n)

  means : Means 0 N.places (Together.together N t M)
  unfolding Together.together
  means = means_from 0 N.places

  -- ---- what is known of the two answers

  pub takable : (k : ℕ) → Together.together N t M ≡ Together.times k → Together.Takable N t M k
  unfolding Together.Takable
  takable k e p l = (rw e at means).0 p (omega arith) (omega arith)

  pub stopped : (k : ℕ) → Together.together N t M ≡ Together.times k → (p : ℕ) × (p < N.places) × (M p < suc k * input N p t)
  stopped k e = let s = (rw e at means).1 in (s.0, omega (arith, s.2), s.3)

  pub no_inputs : Together.together N t M ≡ Together.unlimited → Together.NoInputs N t
  unfolding Together.NoInputs
  no_inputs e p l = (rw e at means) p (omega arith) (omega arith)

  -- where one taking more does not fit, no larger number does
  pub at_most : (k l : ℕ) → (p : ℕ) × (p < N.places) × (M p < suc k * input N p t) → Together.Takable N t M l → l ≤ k
  unfolding Together.Takable
  at_most k l s f = let u : l < suc k = lt_of_mul-lt-mul_right (input N s.0 t) (omega (arith, s.2, f s.0 s.1)) in omega arith

  -- ---- and what the two answers follow from

  pub is_times : (k : ℕ) → Together.Takable N t M k → (p : ℕ) × (p < N.places) × (M p < suc k * input N p t) → Together.together N t M ≡ Together.times k
  unfolding Together.NoInputs
  is_times k f s = go (Together.together N t M) refl
    where
      go : (x : Together.Takings) → Together.together N t M ≡ x → x ≡ Together.times k
      go (Together.times l) e = ap Together.times (let u = at_most k l s (takable l e) in let v = at_most l k (stopped l e) f in omega arith)
      go Together.unlimited e = absurd (omega (arith, s.2, none_fits s.0 (suc k) (no_inputs e s.0 s.1)))

  pub is_unlimited : Together.NoInputs N t → Together.together N t M ≡ Together.unlimited
  unfolding Together.NoInputs
  is_unlimited f = go (Together.together N t M) refl
    where
      go : (x : Together.Takings) → Together.together N t M ≡ x → x ≡ Together.unlimited
      go Together.unlimited e = refl
      go (Together.times k) e = let s = stopped k e in absurd (omega (arith, s.2, none_fits s.0 (suc k) (f s.0 s.1)))

  -- ---- what is left

  pub largest : (k : ℕ) (rest : Marking) → Together.together N t M ≡ Together.times k → ((p : ℕ) → p < N.places → rest p ≡ Together.remainder N t M (Together.times k) p) → Together.Largest N t M k rest
  unfolding Together.remainder Together.Takable
  largest k rest e r = record {
    fits = takable k e;
    no_more = stopped k e;
    largest = λ l f. at_most k l (stopped k e) f;
    exact = λ p l. omega (arith, r p l, takable k e p l);
  }

  pub unlimited : (rest : Marking) → Together.together N t M ≡ Together.unlimited → ((p : ℕ) → p < N.places → rest p ≡ Together.remainder N t M Together.unlimited p) → Together.Unlimited N t M rest
  unfolding Together.remainder Together.Takable Together.NoInputs
  unlimited rest e r = record {
    no_inputs = no_inputs e;
    fits = λ k p l. omega (arith, none_fits p k (no_inputs e p l));
    same = r;
  }
