-- What people conclude from the guarantee, from the smallest slice, from the verdict and from a stuck replay. Each promise is used here in its full strength.
use Rattle.std.specs.Prelude.{ℕ, zero, suc, ◌<◌, true, false, List, ◌++◌, map, ◌≡◌, ◌↔◌, take, get_or, T}
use Rattle.net.specs.Net.{Net}
use Rattle.net.specs.Slice.{Slice}
use Rattle.net.specs.Checker.{Rule, breaks, Holds}
use Rattle.net.specs.Guarantee.{AllAmong, PlanFires, plan_tokens, SliceFires, slice_tokens}

-- the verdict on the slice is the verdict on the plan, for a property F of the tokens on the places of Q
pub record SameVerdict (N : Net) (S : Slice) (Q : List ℕ) (F : List ℕ → Type 0) : Type 0 where
  -- every list that fires ends with it
  pub always : ((ts : List ℕ) → PlanFires N ts → F (map (plan_tokens N ts) Q)) ↔ ((ts : List ℕ) → SliceFires S ts → F (map (slice_tokens S ts) Q))
  -- some list that fires ends with it
  pub sometimes : ((ts : List ℕ) × PlanFires N ts × F (map (plan_tokens N ts) Q)) ↔ ((ts : List ℕ) × SliceFires S ts × F (map (slice_tokens S ts) Q))
  -- this list of S's own transitions fires and ends with it, F being about the tokens on all places of S
  pub own_list : (ts : List ℕ) → AllAmong ts S.transition_origins
      → (PlanFires N ts × F (map (plan_tokens N ts) S.place_origins)) ↔ (SliceFires S ts × F (map (slice_tokens S ts) S.place_origins))

-- how far a list fires: up to the index k, and no list that begins like it and goes on past k fires
pub record StuckForGood (N : Net) (ts : List ℕ) (k : ℕ) : Type 0 where
  pub before : PlanFires N (take k ts)
  pub never : (rest : List ℕ) → ¬ PlanFires N (take (suc k) ts ++ rest)

-- two slices have exactly the same places and transitions
pub record SameKept (S C : Slice) : Type 0 where
  pub places : S.place_origins ≡ C.place_origins
  pub transitions : S.transition_origins ≡ C.transition_origins

-- a rule that no number breaks
unfoldable pub unbroken : Rule
unbroken = record { range = 0; premise = λ n. false; conclusion = λ n. true }

-- rule k of the list, whose first is rule 1
unfoldable pub rule_at : List Rule → ℕ → Rule
rule_at l zero = unbroken
rule_at l (suc i) = get_or l i unbroken

-- every rule of the list holds
unfoldable pub Unbroken : List Rule → Type 0
Unbroken l = (k : ℕ) → Holds (rule_at l k)

-- rule k is broken at n and at no lower number, and no earlier rule is broken
pub record BrokenFirst (l : List Rule) (k n : ℕ) : Type 0 where
  pub number : n < (rule_at l k).range
  pub broken : T (breaks (rule_at l k) n)
  pub lowest : (m : ℕ) → m < n → ¬ T (breaks (rule_at l k) m)
  pub earlier : (j : ℕ) → j < k → Holds (rule_at l j)
