-- Rules 4 to 10 by one pass.
use mathlib.Core.Path.{◌≡◌, ◌∙◌}
use mathlib.Core.Bool.{false}
use mathlib.Core.List.{List}
use Prim.Native.Nat.{ℕ, ◌<◌}
use native.Mathlib.Omega.{arith}
use Rattle.net.specs.Net.{Net}
use Rattle.net.specs.Slice.{Slice}
use Rattle.net.specs.Checker.{verdict_from}
use Rattle.promise.specs.Calls.{told}
use Rattle.rules_tables.specs.Agreed.{Agreed}
use Rattle.check_rules.specs.Room.{rules_from4}
use Rattle.check_rules.proofs.Steps.{past, holds_here, none_left, range4, range5, range6, range7, range8, range9, range10}

pub agreed_told : (N : Net) (S : Slice) (Q : List ℕ) (d : ℕ) → 10 < d → Agreed d N S Q → record { refused = false; code = 0; number = 0 } ≡ told (verdict_from 4 (rules_from4 N S Q))
agreed_told N S Q d l a =
    none_left 11
    ∙ holds_here 10 _ _ _ _ (range10 N S) (past _ (a.tenth (omega arith))) (omega (arith, range10 N S))
    ∙ holds_here 9 _ _ _ _ (range9 N S) (past _ (a.ninth (omega arith))) (omega (arith, range9 N S))
    ∙ holds_here 8 _ _ _ _ (range8 N S) (past _ (a.eighth (omega arith))) (omega (arith, range8 N S))
    ∙ holds_here 7 _ _ _ _ (range7 N S) (past _ (a.seventh (omega arith))) (omega (arith, range7 N S))
    ∙ holds_here 6 _ _ _ _ (range6 N S Q) (past _ (a.sixth (omega arith))) (omega (arith, range6 N S Q))
    ∙ holds_here 5 _ _ _ _ (range5 N S Q) (past _ (a.fifth (omega arith))) (omega (arith, range5 N S Q))
    ∙ holds_here 4 _ _ _ _ (range4 N S) (past _ (a.fourth (omega arith))) (omega (arith, range4 N S))
