use Prim.Native.Nat.{ℕ, ◌<◌}
use lib.ListN.{get_or}
use Rattle.file.specs.Layout.{words_from}
use Rattle.rules_origins.proofs.scan.Given as goal

abbrev pub invariant-loop-j : goal.invariant-loop-j
invariant-loop-j l = (k : ℕ) → k < l.j → get_or (words_from l.slice l.start l.count) k 0 < l.limit
