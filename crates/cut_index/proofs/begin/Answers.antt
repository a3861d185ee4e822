use borrow.Author.Tests.{eq-eqb, ne_eqb}
use Rattle.cut_index.proofs.begin.Goals as goal

pub returns-then-t-last : goal.returns-then-t-last
returns-then-t-last c = simp (eq-eqb _ _ c.if-t-last.true)

pub returns-else-t-last : goal.returns-else-t-last
returns-else-t-last c = simp (ne_eqb _ _ c.if-t-last.false)
