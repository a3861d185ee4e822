-- What is known of the rules 4 to 10 before they are looked at one by one.
use Rattle.std.specs.Prelude.{ℕ, ◌<◌, false, List, ◌≡◌}
use Rattle.net.specs.Net.{Net}
use Rattle.net.specs.Slice.{Slice}
use Rattle.net.specs.Checker.{Rule, breaks, rule4, rule5, rule6, rule7, rule8, rule9, rule10}

-- no number breaks the rule
pub record Unbroken (R : Rule) : Type 0 where
  pub at : (n : ℕ) → n < R.range → breaks R n ≡ false

-- of the rules 4 to 10, those that come before rule d hold
pub record Agreed (d : ℕ) (N : Net) (S : Slice) (Q : List ℕ) : Type 0 where
  pub fourth : 4 < d → Unbroken (rule4 N S)
  pub fifth : 5 < d → Unbroken (rule5 N S Q)
  pub sixth : 6 < d → Unbroken (rule6 N S Q)
  pub seventh : 7 < d → Unbroken (rule7 N S)
  pub eighth : 8 < d → Unbroken (rule8 N S)
  pub ninth : 9 < d → Unbroken (rule9 N S)
  pub tenth : 10 < d → Unbroken (rule10 N S)
