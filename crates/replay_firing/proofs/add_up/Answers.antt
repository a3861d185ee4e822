use borrow.Author.Tests.{eq-eqb, ne_eqb}
use Rattle.replay_firing.proofs.add_up.Goals as goal

pub returns-then-p-last : goal.returns-then-p-last
returns-then-p-last c = rw (eq-eqb _ _ c.if-p-last.true)

pub returns : goal.returns
returns c = rw (ne_eqb _ _ c.if-p-last.false)
