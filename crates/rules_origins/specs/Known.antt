-- Origins that the plan knows, and places that are alike.
use Rattle.std.specs.Prelude.{ℕ, ◌<◌, Bool, not, ◌&&◌, List, eqb, ltb, length, get_or}
use Rattle.net.specs.Numbers.{first}
use Rattle.net.specs.Net.{Net}

-- "Every .. origin is below" the limit
pub record Known (limit : ℕ) (os : List ℕ) : Type 0 where
  pub at : (i : ℕ) → i < length os → get_or os i 0 < limit

-- the first of n origins that is not; n where there is none
unfoldable pub first_unknown : ℕ → List ℕ → ℕ → ℕ
first_unknown limit os n = first (λ i. not (ltb (get_or os i 0) limit)) 0 n

-- place i of M has the marking and the cap of place p of N
abbrev pub same_at : Net → Net → ℕ → ℕ → Bool
same_at N M i p = eqb (M.marking i) (N.marking p) && eqb (M.cap i) (N.cap p)
