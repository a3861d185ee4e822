-- A search by halving, in numbers that do not fall: where those below k end.
use Prim.Native.Nat.{ℕ, ◌+◌, ◌≤◌, ◌<◌}
use mathlib.Core.Path.{◌≡◌}
use native.Mathlib.Omega.{arith}

-- of the numbers f from..to, those before `low` are below k, those from `high` on are not; what else is given stays so
pub record Halving (A : Type 0) (f : ℕ → ℕ) (from to k low high : ℕ) : Type 0 where
  pub given : A
  pub order : (i j : ℕ) → from ≤ i → i ≤ j → j < to → f i ≤ f j
  pub first : from ≤ low
  pub rising : low ≤ high
  pub within : high ≤ to
  pub below : (i : ℕ) → from ≤ i → i < low → f i < k
  pub above : (i : ℕ) → high ≤ i → i < to → k ≤ f i

pub halving_start : {A : Type 0} {f : ℕ → ℕ} {from to k : ℕ} → A → ((i j : ℕ) → from ≤ i → i ≤ j → j < to → f i ≤ f j) → from ≤ to → Halving A f from to k from to
halving_start a o l = record {
  given = a;
  order = o;
  first = omega arith;
  rising = l;
  within = omega arith;
  below = λ i g h. absurd (omega (arith, g, h));
  above = λ i g h. absurd (omega (arith, g, h));
}

module _ {A : Type 0} {f : ℕ → ℕ} {from to k low high : ℕ} (x : Halving A f from to k low high) (middle : ℕ) (more : low ≤ middle) (less : middle < high) {v : ℕ} (e : v ≡ f middle) where
  -- number `middle` is below k: so are those before it
  pub halving_up : v < k → Halving A f from to k (middle + 1) high
  halving_up l = record {
    given = x.given;
    order = x.order;
    first = omega (arith, x.first, more);
    rising = omega (arith, less);
    within = x.within;
    below = λ i g h. omega (arith, e, l, x.order i middle g (omega (arith, h)) (omega (arith, less, x.within)));
    above = x.above;
  }

  -- it is not: nor are those after it
  pub halving_down : k ≤ v → Halving A f from to k low middle
  halving_down l = record {
    given = x.given;
    order = x.order;
    first = x.first;
    rising = more;
    within = omega (arith, less, x.within);
    below = x.below;
    above = λ i g h. omega (arith, e, l, x.order middle i (omega (arith, x.first, more)) g h);
  }
