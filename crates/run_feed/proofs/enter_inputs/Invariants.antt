use Rattle.run_feed.proofs.Raising.{InputsEntered}
use Rattle.run_feed.proofs.enter_inputs.Given as goal

abbrev pub invariant-loop-j : goal.invariant-loop-j
invariant-loop-j l = InputsEntered l.file l.h l.last l.from l.t l.j l.initial.places l.initial.first l.places l.first
