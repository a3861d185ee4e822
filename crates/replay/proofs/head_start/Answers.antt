use Rattle.replay.proofs.Underway.{going_on, listed_still, underway_then}
use Rattle.replay.proofs.head_start.Goals as goal

-- no firing is done
pub ahead-requires : goal.ahead-requires
ahead-requires c =
    let none = c in
    let s = none in
    record { ready = s.requires.ready; listed = listed_still s.requires.going.is none.if-done-ne0.false }

pub returns : goal.returns
returns c =
    let ahead = c in
    let none = ahead in
    let s = none in
    going_on s.requires.going (underway_then s.requires.going.is none.if-done-ne0.false ahead.ahead.ensures)
