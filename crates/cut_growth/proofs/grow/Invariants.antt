use Rattle.cut_search.proofs.Closing.{left, Going}
use Rattle.cut_growth.proofs.grow.Given as goal

-- steps are done, and as many are left as `left` counts
abbrev pub invariant-loop-m : goal.invariant-loop-m
invariant-loop-m l = Going l.file l.h l.all l.both l.fn.kept.places l.fn.kept.transitions l.initial.gone l.m l.sets.places l.sets.transitions l.gone

abbrev pub decreases-loop-m : goal.decreases-loop-m
decreases-loop-m l = left l.m l.gone
