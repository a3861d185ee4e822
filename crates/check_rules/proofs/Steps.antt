-- "Rules in order": the verdict, one rule at a time.
use Prim.Native.Nat.{ℕ, suc, ◌+◌, ◌≤◌, ◌<◌}
use mathlib.Core.Path.{◌≡◌, refl, ap, sym}
use mathlib.Core.Bool.{true, false}
use mathlib.Core.List.{List, [], ◌∷◌}
use lib.Dec.{ltb}
use borrow.Author.Tests.{lt-ltb, le-ltb}
use Rattle.net.specs.Net.{Net, Uncapped}
use Rattle.net.specs.Slice.{Slice}
use Rattle.net.specs.Checker.{Rule, breaks, breaker, verdict_from, verdict, rules, rule1, rule2, rule3, rule4, rule5, rule6, rule7, rule8, rule9, rule10}
use Rattle.net.proofs.Verdict.{AllHold, verdict-holds}
use Rattle.net.proofs.Uncapped.{uncapped_rule9, uncapped_rule10}
use Rattle.promise.specs.Calls.{told}
use Rattle.net.proofs.Numbers.{first-none}
use Rattle.rules_tables.specs.Agreed.{Unbroken}
use Rattle.check_rules.specs.Room.{rules_from4}

-- no number breaks the rule: its lowest number is past its range
pub past : (R : Rule) → Unbroken R → R.range ≡ breaker R
unfolding breaker
past R u = first-none (breaks R) R.range u.at

-- the rule is broken: its number and the number that breaks it
module _ (k : ℕ) (R : Rule) (l : List Rule) (n r : ℕ) (range : R.range ≡ r) (found : n ≡ breaker R) where
  pub broken_here : n < r → record { refused = false; code = 100 + k; number = n } ≡ told (verdict_from k (R ∷ l))
  unfolding verdict_from
  broken_here h =
      let e : ltb (breaker R) R.range ≡ true = lt-ltb (breaker R) R.range (rw (← found, range) h) in
      rw (e, verdict_from) (ap (λ (m : ℕ). record { refused = false; code = 100 + k; number = m }) found)

  -- the rule holds: the rules after it decide
  pub holds_here : r ≤ n → told (verdict_from (suc k) l) ≡ told (verdict_from k (R ∷ l))
  unfolding verdict_from
  holds_here h =
      let e : ltb (breaker R) R.range ≡ false = le-ltb (breaker R) R.range (rw (← found, range) h) in
      rw (e, verdict_from)

-- rules 9 and 10 are left, which hold of a net without caps: accepted
pub caps_left : (N : Net) (S : Slice) → Uncapped N → record { refused = false; code = 0; number = 0 } ≡ told (verdict_from 9 (rule9 N S ∷ rule10 N S ∷ []))
unfolding AllHold
caps_left N S none = ap told (sym ((verdict-holds 9 (rule9 N S ∷ rule10 N S ∷ [])).1 (uncapped_rule9 N none S, (uncapped_rule10 N none S, tt))))

-- no rule is left: accepted
pub none_left : (k : ℕ) → record { refused = false; code = 0; number = 0 } ≡ told (verdict_from k [])
unfolding verdict_from
none_left k = refl

-- the ranges
module _ (N : Net) (S : Slice) where
  pub range1 : (rule1 N S).range ≡ S.net.places
  unfolding rule1
  range1 = refl

  pub range2 : (rule2 N S).range ≡ S.net.transitions
  unfolding rule2
  range2 = refl

  pub range3 : (rule3 N S).range ≡ N.places
  unfolding rule3
  range3 = refl

  pub range4 : (rule4 N S).range ≡ N.transitions
  unfolding rule4
  range4 = refl

  pub range7 : (rule7 N S).range ≡ N.transitions
  unfolding rule7
  range7 = refl

  pub range8 : (rule8 N S).range ≡ N.transitions
  unfolding rule8
  range8 = refl

  pub range9 : (rule9 N S).range ≡ N.transitions
  unfolding rule9
  range9 = refl

  pub range10 : (rule10 N S).range ≡ N.transitions
  unfolding rule10
  range10 = refl

module _ (N : Net) (S : Slice) (Q : List ℕ) where
  pub range5 : (rule5 N S Q).range ≡ N.places
  unfolding rule5
  range5 = refl

  pub range6 : (rule6 N S Q).range ≡ N.transitions
  unfolding rule6
  range6 = refl

  pub all-rules : told (verdict_from 1 (rule1 N S ∷ rule2 N S ∷ rule3 N S ∷ rules_from4 N S Q)) ≡ told (verdict N S Q)
  unfolding verdict rules
  all-rules = refl
