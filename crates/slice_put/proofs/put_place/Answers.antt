use Rattle.slice_put.proofs.Placing.{capped-put, plain_put}
use Rattle.slice_put.proofs.put_place.Goals as goal
use Rattle.slice_put.proofs.put_place.Goals.{After-put32-arg-then-edition-eq-CAPS-1, Else-edition-eq-CAPS, Start, Then-edition-eq-CAPS}

pub returns-then-edition-eq-CAPS : goal.returns-then-edition-eq-CAPS
returns-then-edition-eq-CAPS c =
    let second = c in
    let first = second in
    let t = first in
    capped-put _ _ _ _ _ t.if-edition-eq-CAPS.true first.put32.ensures second.put32-then-edition-eq-CAPS.ensures

pub returns-else-edition-eq-CAPS : goal.returns-else-edition-eq-CAPS
returns-else-edition-eq-CAPS c = let put = c in plain_put _ _ _ _ _ put.if-edition-eq-CAPS.false put.put32-else-edition-eq-CAPS.ensures
