use Prim.Native.Nat.{ℕ, ◌<◌}
use mathlib.Core.Path.{◌≡◌}
use lib.ListN.{get_or}
use Rattle.file.specs.Layout.{net_from}
use Rattle.rules_effects.specs.Movers.{change_limit}
use Rattle.rules_effects.proofs.limit_capped.Given as goal

abbrev pub invariant-loop-p : goal.invariant-loop-p
invariant-loop-p l = (q : ℕ) → q < l.p → get_or l.limit q 0 ≡ change_limit (get_or l.ownp q 0) ((net_from l.plan l.hp).cap q)
