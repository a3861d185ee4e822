use Rattle.replay_steps.specs.Steps.{Underway}
use Rattle.replay_fast.proofs.march_whole.Given as goal

abbrev pub invariant-loop-k : goal.invariant-loop-k
invariant-loop-k g l = Underway l.file l.fn.h l.list l.initial.marking l.marking l.k
