use Rattle.file.specs.Layout.{net_from}
use Rattle.rules_origins.proofs.Keeping.{same_by}
use Rattle.rules_origins.proofs.alike.Goals as goal

pub returns : goal.returns
returns c =
    let read = c in
    let a = read.args in
    same_by (net_from a.plan.now a.hp) (net_from a.slice.now a.hs) a.i a.p _ _ _ _ read.marking.ensures.0 read.marking-held.ensures.0 c.cap.ensures.0 read.cap-most.ensures.0
