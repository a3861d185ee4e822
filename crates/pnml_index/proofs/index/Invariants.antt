use Rattle.pnml_index.proofs.Searching as searching
use Rattle.pnml_index.proofs.index.Given as goal

abbrev pub invariant-loop-k : goal.invariant-loop-k
invariant-loop-k l = searching.Indexing l.text l.names l.head l.next l.k
