use Prim.Native.Nat.{ℕ, ◌≤◌, ◌<◌}
use lib.ListN.{get_or}
use Rattle.file.specs.Layout.{net_from}
use Rattle.range.proofs.in_marking.Given as goal

abbrev pub invariant-loop-p : goal.invariant-loop-p
invariant-loop-p l = (q : ℕ) → q < l.p → get_or l.need q 0 ≤ (net_from l.file l.h).marking q
