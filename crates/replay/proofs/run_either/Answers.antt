use mathlib.Core.Path.{sym, ◌∙◌}
use Rattle.file.proofs.Caps.{none_capped}
use Rattle.replay.proofs.Underway.{going_from, ended-on, ready_on}
use Rattle.replay.proofs.run_either.Goals as goal
use Rattle.replay.proofs.run_either.Goals.{After-has_caps, After-head_start-k, Start}

-- ---- the states: the call, and the marking after the quick way

abbrev ahead : After-has_caps → After-head_start-k
ahead c = (goal.at.After-has_caps c).After-head_start-k

abbrev call : After-head_start-k → Start
call c = (goal.at.After-head_start-k c).Start

pub run_capped-requires : goal.run_capped-requires
run_capped-requires c =
    let k = ahead (goal.at.run_capped-requires c).After-has_caps in
    let s = call k in
    let g = k.head_start-k.ensures in
    record { ready = ready_on g.was g.is s.requires.ready; going = going_from g.is }

pub returns-then-has_caps : goal.returns-then-has_caps
returns-then-has_caps c =
    let r = c in
    ended-on (ahead (goal.at.returns-then-has_caps r).After-has_caps).head_start-k.ensures r.run_capped.ensures

-- no place has a cap
pub run-requires : goal.run-requires
run-requires c =
    let known = c in
    let k = ahead (goal.at.run-requires known).After-has_caps in
    let s = call k in
    let none = none_capped s.args.file.now s.args.h (sym known.has_caps.ensures ∙ c.if-has_caps.false) in
    let g = k.head_start-k.ensures in
    record { plain = record { ready = ready_on g.was g.is s.requires.ready; uncapped = none }; going = going_from g.is }

pub returns : goal.returns
returns c =
    let r = c in
    ended-on (ahead (goal.at.returns r).After-has_caps).head_start-k.ensures r.run.ensures
