use Rattle.pnml_index.proofs.Searching as searching
use Rattle.pnml_index.proofs.seek.Given as goal

abbrev pub invariant-loop-m : goal.invariant-loop-m
invariant-loop-m l = searching.Along l.text l.a l.names l.next l.from l.m

abbrev pub decreases-loop-m : goal.decreases-loop-m
decreases-loop-m l = l.m
