use Rattle.projection.proofs.Tables.{origins_of, projects}
use Rattle.projection.proofs.numbers.Goals as goal
use Rattle.projection.proofs.numbers.Goals.{After-own_in-arg-1, Start}

abbrev call : After-own_in-arg-1 → Start
call c = (goal.at.After-own_in-arg-1 c).Start

pub own_in-requires : goal.own_in-requires
own_in-requires c = record { origins = origins_of _ _ (call c).requires.sound.0 (call c).requires.sound.1; by_index = (call c).requires.by_index }

pub returns : goal.returns
returns c =
    let numbered = c in
    let s = (call (goal.at.returns numbered).After-own_in-arg-1).args in
    projects s.slice.now s.h numbered.own_in.ensures.0 numbered.own_in.ensures.1
