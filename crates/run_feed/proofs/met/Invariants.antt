use Rattle.run_feed.specs.Back.{PassedBy}
use Rattle.run_feed.proofs.met.Given as goal

abbrev pub invariant-loop-i : goal.invariant-loop-i
invariant-loop-i l = PassedBy l.list l.first l.i l.k
