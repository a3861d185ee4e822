use Rattle.sets.specs.Member.{bit, member, count_below}
use Rattle.sets_pending.specs.Growing.{Marked}
use Rattle.sets_pending.proofs.lowest.Given as goal

abbrev pub invariant-loop-i : goal.invariant-loop-i
invariant-loop-i l = Marked l.places (member l.gone) l.marks

abbrev pub decreases-loop-i : goal.decreases-loop-i
decreases-loop-i l = count_below (bit l.marks) 64
