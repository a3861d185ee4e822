use Rattle.replay_steps.specs.Steps.{Underway}
use Rattle.replay_fast.proofs.march_read.Given as goal

abbrev pub invariant-loop-k : goal.invariant-loop-k
invariant-loop-k l = Underway l.file l.fn.h l.list l.initial.marking l.marking l.k
