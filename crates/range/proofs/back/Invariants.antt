use Prim.Native.Nat.{ℕ}
use mathlib.Core.Path.{◌≡◌}
use lib.ListN.{length, get_or, drop}
use Rattle.net.specs.Range.{need}
use Rattle.file.specs.Layout.{net_from}
use Rattle.range.proofs.back.Given as goal

abbrev pub invariant-loop-k : goal.invariant-loop-k
invariant-loop-k l = (length l.need ≡ length l.initial.need) × ((p : ℕ) → get_or l.need p 0 ≡ need (net_from l.file l.h) (drop l.k l.list) p)
