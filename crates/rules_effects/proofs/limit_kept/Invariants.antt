use Prim.Native.Nat.{ℕ, ◌<◌}
use mathlib.Core.Path.{◌≡◌}
use lib.ListN.{get_or}
use lib.Dec.{eqb}
use Rattle.rules_effects.specs.Movers.{limit_on}
use Rattle.rules_effects.proofs.limit_kept.Given as goal

abbrev pub invariant-loop-p : goal.invariant-loop-p
invariant-loop-p l = (q : ℕ) → q < l.p → get_or l.limit q 0 ≡ limit_on (eqb (get_or l.ownp q 0) 0) 4294967295 1073741824
