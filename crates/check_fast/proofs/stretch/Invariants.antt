use Rattle.check_fast.specs.Pass.{Walked}
use Rattle.check_fast.proofs.stretch.Given as goal

abbrev pub invariant-loop-j : goal.invariant-loop-j
invariant-loop-j l = Walked l.plan l.hp l.slice l.hs l.criterion l.j l.k l.differs l.doubt
