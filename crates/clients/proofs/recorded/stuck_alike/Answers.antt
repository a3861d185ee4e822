use Rattle.clients.proofs.Running.{stuck_there, told_back}
use Rattle.clients.proofs.recorded.stuck_alike.Goals as goal

pub returns : goal.returns
returns c =
    let replayed = c in
    let cut = replayed in
    let s = cut.run_cut-cut.ensures in
    stuck_there _ _ _ _ _ _ _ (told_back _ _ _ _ _ _ _ s.answer s.feeds) _ replayed.replay.ensures.answer
