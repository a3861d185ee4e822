use Rattle.pnml_file.proofs.Laws as laws
use Rattle.pnml_file.proofs.marking_off.Given as goal

abbrev pub invariant-loop-at : goal.invariant-loop-at
invariant-loop-at l = laws.Looking l.text l.places l.at-index
