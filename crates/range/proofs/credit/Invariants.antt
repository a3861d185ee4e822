use Rattle.range.specs.Need.{Credits}
use Rattle.range.proofs.credit.Given as goal

abbrev pub invariant-loop-j : goal.invariant-loop-j
invariant-loop-j l = Credits l.file l.start l.from l.j l.initial.need l.need
