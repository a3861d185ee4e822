use lib.ListN.{take}
use Rattle.net.specs.Numbers.{among}
use Rattle.run_feed.specs.Back.{Entered}
use Rattle.run_feed.proofs.enter_criterion.Given as goal

abbrev pub invariant-loop-q : goal.invariant-loop-q
invariant-loop-q l = Entered l.file l.h (λ k. among k (take l.q-index l.criterion)) l.last l.initial.places l.initial.first l.places l.first
