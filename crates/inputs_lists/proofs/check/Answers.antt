use Rattle.std.proofs.Common.{lt-ltb, le-ltb}
use Rattle.promise.specs.Firing.{list_refusal}
use Rattle.inputs_lists.proofs.check.Goals as goal

pub returns-then-list-gt65535 : goal.returns-then-list-gt65535
unfolding list_refusal
returns-then-list-gt65535 c = rw (lt-ltb _ _ c.if-list-gt65535.true)

pub returns-then-has_unknown : goal.returns-then-has_unknown
unfolding list_refusal
returns-then-has_unknown c = rw (le-ltb _ _ c.if-list-gt65535.false, ← c.has_unknown.ensures, c.if-has_unknown.true)

pub returns : goal.returns
unfolding list_refusal
returns c = rw (le-ltb _ _ c.if-list-gt65535.false, ← c.has_unknown.ensures, c.if-has_unknown.false)
