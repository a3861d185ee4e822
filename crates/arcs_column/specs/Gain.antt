-- Sums of weights over a run of arcs.
use Rattle.std.specs.Prelude.{ℕ, zero, suc, ◌+◌, ◌*◌, ◌-◌, ◌≤◌, ◌<◌, ◌≡◌, Bool, false, not, ◌&&◌, ◌||◌, ◌⊎◌, List, eqb, ltb, length, get_or}
use Rattle.net.specs.Net.{counted}
use Rattle.file_arcs.specs.Layout.{arc_at}
use Rattle.net.specs.declared.Arc.{Arc}

-- what an arc adds to the sum of p
abbrev pub part : ℕ → Arc → ℕ
part p a = counted (eqb a.place p) a.weight

-- the weights of the first j arcs that are at p
unfoldable pub sum_to : List ℕ → ℕ → ℕ → ℕ → ℕ
sum_to s start p zero = 0
sum_to s start p (suc j) = sum_to s start p j + part p (arc_at s (start + 8 * j))

-- above its limit, and not at rest
abbrev pub pulls : ℕ → ℕ → Bool
pulls limit g = ltb limit g && not (eqb g 1073741824)

abbrev pub pulls_at : List ℕ → List ℕ → ℕ → Bool
pulls_at limit column p = pulls (get_or limit p 0) (get_or column p 0)

-- is a place of the n arcs from `from` on pulled?
unfoldable pub pulled_in : List ℕ → ℕ → List ℕ → List ℕ → ℕ → ℕ → Bool
pulled_in s start limit column from zero = false
pulled_in s start limit column from (suc n) =
    pulled_in s start limit column from n || pulls_at limit column (arc_at s (start + 8 * (from + n))).place

abbrev pub pulled_to : List ℕ → ℕ → List ℕ → List ℕ → ℕ → ℕ → Bool
pulled_to s start limit column from to = pulled_in s start limit column from (to - from)

-- the arcs from..to stand in the file, and are at places below P
pub record Run (s : List ℕ) (start from to P : ℕ) : Type 0 where
  pub rising : from ≤ to
  pub fit : start + 8 * to ≤ length s
  pub short : length s ≤ 65536
  pub places : (i : ℕ) → i < to → (arc_at s (start + 8 * i)).place < P

pub record Takes (s : List ℕ) (start from to : ℕ) (was is : List ℕ) : Type 0 where
  pub long : length is ≡ length was
  pub at : (p : ℕ) → get_or is p 0 + sum_to s start p to ≡ get_or was p 0 + sum_to s start p from

pub record Gives (s : List ℕ) (start from to : ℕ) (was is : List ℕ) : Type 0 where
  pub long : length is ≡ length was
  pub at : (p : ℕ) → p < length was → get_or is p 0 + sum_to s start p from ≡ get_or was p 0 + sum_to s start p to

-- the places of the arcs from..to are at rest, and the others at rest or as they were
pub record Rested (s : List ℕ) (start from to : ℕ) (was is : List ℕ) : Type 0 where
  pub long : length is ≡ length was
  pub here : (i : ℕ) → from ≤ i → i < to → get_or is (arc_at s (start + 8 * i)).place 0 ≡ 1073741824
  pub other : (p : ℕ) → (get_or is p 0 ≡ get_or was p 0) ⊎ (get_or is p 0 ≡ 1073741824)
