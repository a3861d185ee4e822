use Rattle.check_fast.proofs.Parting.{Level}
use Rattle.check_fast.proofs.first_other.Given as goal

abbrev pub invariant-loop-j : goal.invariant-loop-j
invariant-loop-j l = Level l.plan l.fn.hp l.slice l.hs l.j l.k
