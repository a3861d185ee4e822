use Rattle.std.proofs.Common.{◌≡◌, ℕ, ◌<◌}
use Rattle.file.specs.Layout.{net_from}
use Rattle.file.proofs.has_caps.Given as goal

abbrev pub invariant-loop-p : goal.invariant-loop-p
invariant-loop-p l = (q : ℕ) → q < l.p → (net_from l.file l.h).cap q ≡ 0
