use Rattle.replay_firing.proofs.Caps.{Looked}
use Rattle.replay_firing.proofs.lowest_full.Given as goal

abbrev pub invariant-loop-j : goal.invariant-loop-j
invariant-loop-j l = Looked l.file l.h l.t l.from l.to l.marking l.j
