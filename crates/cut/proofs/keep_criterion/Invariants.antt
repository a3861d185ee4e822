use Rattle.cut.proofs.Criterion.{Starting}
use Rattle.cut.proofs.keep_criterion.Given as goal

abbrev pub invariant-loop-p : goal.invariant-loop-p
invariant-loop-p l = Starting l.criterion l.p-index l.kept
