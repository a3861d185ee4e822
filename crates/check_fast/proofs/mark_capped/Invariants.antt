use Rattle.file.specs.Layout.{net_from}
use Rattle.check_fast.proofs.Growing.{BoundTo}
use Rattle.check_fast.proofs.mark_capped.Given as goal

abbrev pub invariant-loop-p : goal.invariant-loop-p
invariant-loop-p l = BoundTo (net_from l.plan l.hp) l.initial.places l.p l.places
