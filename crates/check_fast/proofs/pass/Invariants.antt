use Prim.Native.Nat.{◌-◌, ◌≤◌}
use Rattle.check_fast.specs.Pass.{Walked}
use Rattle.check_fast.proofs.pass.Given as goal

abbrev pub invariant-loop-at : goal.invariant-loop-at
invariant-loop-at l = Walked l.plan l.hp l.slice l.hs l.criterion l.at.arc l.at.own l.at.differs l.at.doubt × (l.seen ≤ l.at.arc)

abbrev pub decreases-loop-at : goal.decreases-loop-at
decreases-loop-at l = l.hp.arcs - l.at.arc
