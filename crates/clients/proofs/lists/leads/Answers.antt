use Rattle.clients.proofs.Listed.{led}
use Rattle.clients.proofs.lists.leads.Goals as goal

pub returns : goal.returns
returns c =
    let r = c.replay-o.ensures in
    λ z. led _ _ _ _ z r.answer r.marking c.all_fired.ensures
