use native.Mathlib.Omega.{arith}
use Rattle.rules_effects.proofs.Moving.{Turn, turn}
use Rattle.rules_effects.proofs.moves.Goals as goal
use Rattle.rules_effects.proofs.moves.Goals.{After-entry-to, After-give, After-take, Start}

-- ---- the states: the starts known, what is taken gone, what is given added

abbrev call : After-entry-to → Start
call c = (goal.at.After-entry-to c).Start

abbrev starts_of : After-take → After-entry-to
starts_of c = (goal.at.After-take c).After-entry-to

abbrev taken_of : After-give → After-take
taken_of c = (goal.at.After-give c).After-take

-- where the arcs of t stand
turn_at : (c : After-entry-to) → let s = call c in Turn s.args.plan.now s.args.hp s.args.t c.entry-from.result c.entry-middle.result c.entry-to.result s.args.limit.now s.args.column.now
turn_at c =
    let s = call c in
    turn _ _ _ s.requires.sound s.requires.starts (λ i. omega (arith, c.type_inv.plan i)) _ s.requires.t_lt_transitions _ _ _
    c.entry-from.ensures.0 c.entry-middle.ensures.0 c.entry-to.ensures.0 _ s.requires.resting _ s.requires.limit_len

pub take-requires : goal.take-requires
take-requires c = let told = (turn_at (goal.at.take-requires c).After-entry-to).taking in record { run = told.0; by_index = told.1 }

pub give-requires : goal.give-requires
give-requires c =
    let taken = c in
    let told = (turn_at (starts_of (goal.at.give-requires taken).After-take)).giving _ taken.take.ensures in
    record { run = told.0; by_index = told.1 }

pub pulled-requires : goal.pulled-requires
pulled-requires c =
    let given = c in
    let taken = taken_of (goal.at.pulled-requires given).After-give in
    let told = (turn_at (starts_of taken)).pulling _ taken.take.ensures _ given.give.ensures in
    record { run = told.0; limit_len = told.1 }

pub returns : goal.returns
returns c =
    let pulled = c in
    let given = pulled in
    let taken = taken_of (goal.at.returns given).After-give in
    let told = (turn_at (starts_of taken)).answer _ taken.take.ensures _ given.give.ensures _ _ pulled.pulled.ensures.value pulled.pulled.ensures.rested in
    record { value = told.0; resting_2 = told.1 }
