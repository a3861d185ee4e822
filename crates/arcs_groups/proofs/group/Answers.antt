use mathlib.Core.Path.{sym, ◌∙◌}
use native.Mathlib.Omega.{arith}
use Rattle.arcs_groups.proofs.Groups.{run-one}
use Rattle.arcs_groups.proofs.group.Goals as goal

pub returns-then-alone : goal.returns-then-alone
returns-then-alone c = (c.alone.ensures c.if-alone.true, c.get16.ensures.0 ∙ sym (run-one _ _ _), omega (arith, c.get16.ensures.1))
