use Rattle.file.specs.Layout.{net_from}
use Rattle.rules_arcs.proofs.Lacking.{capped-here}
use Rattle.rules_arcs.proofs.capped_left.Goals as goal

pub returns : goal.returns
returns c = capped-here (net_from c.args.plan.now c.args.hp) c.args.place c.args.ownp.now _ c.entry.ensures.0 c.if-entry-ne0.false _ c.cap.ensures.0
