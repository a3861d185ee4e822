use Rattle.pnml_text.proofs.Runs as runs
use Rattle.pnml_text.specs.declared.Run.TheVariants.{Digits}
use Rattle.pnml_text.specs.Rest.{front, decimal, capped}
use lib.ListN.{drop}
use Rattle.pnml_text.proofs.number.Given as goal

abbrev pub invariant-loop-a : goal.invariant-loop-a
invariant-loop-a l = runs.Numbering l.text l.a l.n (capped (decimal 0 (front Digits (drop l.at l.text))))
