use mathlib.Core.Path.{◌≡◌}
use lib.ListN.{drop}
use Rattle.promise.specs.Transfer.{strands}
use Rattle.carry.proofs.stranded.Given as goal

abbrev pub invariant-loop-i : goal.invariant-loop-i
invariant-loop-i l = strands (drop l.i l.table) (drop l.i l.running) ≡ strands l.table l.running
