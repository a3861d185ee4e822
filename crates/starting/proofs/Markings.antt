-- What does not depend on the marking of a net: the checker's rules from the fourth on.
use Prim.Native.Nat.{ℕ}
use mathlib.Core.List.{List}
use mathlib.Core.Path.{◌≡◌, refl}
use Rattle.net.specs.Net.{Net, Marking, input, output, changes, raises, takes_from, adds_to, capped}
use Rattle.net.specs.Slice.{Slice, plan_run}
use Rattle.net.specs.Checker.{lacks_input, lacks_output, rule4, rule5, rule6, rule7, rule8, rule9, rule10}
use Rattle.promise.specs.Starts.{starting_at}
use Rattle.check_rules.specs.Room.{rules_from4}

pub rules-same : (M : Marking) (N : Net) (S : Slice) (Q : List ℕ) → rules_from4 N S Q ≡ rules_from4 (starting_at M N) S Q
unfolding rule4 rule5 rule6 rule7 rule8 rule9 rule10 plan_run lacks_input lacks_output changes raises takes_from adds_to capped input output
rules-same M N S Q = refl
