use mir.Syntax.{w32}
use mathlib.Core.Path.{◌∙◌}
use mir.Facts.{to_z-of_z}
use Rattle.arcs_effect.proofs.Differences.{difference_is, difference_fits}
use Rattle.arcs_effect.proofs.difference.Goals as goal

pub overflow_sub-result : goal.overflow_sub-result
overflow_sub-result c = difference_fits c.args.a c.args.b c.requires

pub returns : goal.returns
returns c = to_z-of_z {w = w32} (difference_fits c.args.a c.args.b c.requires) ∙ difference_is c.args.a c.args.b c.requires
