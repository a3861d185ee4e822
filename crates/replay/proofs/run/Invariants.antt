use Rattle.replay_firing.proofs.Short.{Covered}
use Rattle.replay.specs.Steps.{Going}
use Rattle.replay.proofs.run.Given as goal

-- from the marking after k firings the rest of the list replays as the list does from the marking of the call
abbrev pub invariant-loop-k : goal.invariant-loop-k
invariant-loop-k l = Going l.file l.h l.list l.initial.marking l.done l.marking l.k

-- every place has enough for the input arcs passed
abbrev pub invariant-loop-j : goal.invariant-loop-j
invariant-loop-j l = Covered l.file l.h l.t l.from l.middle l.marking l.j l.last l.need
