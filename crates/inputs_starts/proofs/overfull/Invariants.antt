use Rattle.std.proofs.Common.{◌≡◌, ℕ, ◌<◌, false}
use Rattle.file.specs.Layout.{net_from}
use Rattle.promise.specs.Together.{standing}
use Rattle.promise.specs.Starts.{too_many}
use Rattle.inputs_starts.proofs.overfull.Given as goal

abbrev pub invariant-loop-p : goal.invariant-loop-p
invariant-loop-p l = (q : ℕ) → q < l.p → too_many (standing l.marking q) ((net_from l.file l.h).cap q) ≡ false
