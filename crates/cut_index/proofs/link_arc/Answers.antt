use mathlib.Core.Path.{refl, ap}
use lib.ListN.{set}
use Rattle.cut_index.proofs.link_arc.Goals as goal

pub returns : goal.returns
returns c = record { head_is = ap (set c.args.head.now c.args.row) c.entry.ensures; next_is = refl }
