use Rattle.carry.proofs.Sums.{running_wrong, length-wrong, entries-wrong}
use Rattle.carry.proofs.table_wrong.Goals as goal

pub returns-then-running-old : goal.returns-then-running-old
returns-then-running-old c = running_wrong _ _ _ _ c.if-running-old.true

pub returns-then-table-old : goal.returns-then-table-old
returns-then-table-old c = length-wrong _ _ _ _ c.if-running-old.false c.if-table-old.true

pub returns : goal.returns
returns c = entries-wrong _ _ _ _ c.if-running-old.false c.if-table-old.false c.has_unknown.ensures
