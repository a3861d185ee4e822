use Rattle.net.specs.Checker.{breaks, rule9}
use Rattle.rules_arcs.proofs.Lacking.{lacks_not, outputs_run, lacks_output_lem}
use Rattle.rules_arcs.proofs.lacks_output.Goals as goal
use Rattle.rules_arcs.proofs.lacks_output.Goals.{After-entry, Start}

abbrev call : After-entry → Start
call c = (goal.at.After-entry c).Start

pub returns-then-entry-eq0 : goal.returns-then-entry-eq0
unfolding breaks rule9
returns-then-entry-eq0 c = let s = call (goal.at.returns-then-entry-eq0 c).After-entry in lacks_not _ _ _ _ _ _ _ s.requires.cases _ s.requires.t_lt_transitions _ c.entry.ensures.0 c.if-entry-eq0.true _

pub capped_unkept-requires : goal.capped_unkept-requires
capped_unkept-requires c =
    let pre = (call (goal.at.capped_unkept-requires c).After-entry).requires in
    record { placed = pre.cases.planned.placed; run = outputs_run _ _ _ _ _ _ _ pre.cases _ pre.t_lt_transitions _ _ c.entry-from.ensures.0 c.entry-upto.ensures.0; places_in_bounds = pre.cases.places_reached }

pub returns : goal.returns
returns c =
    let kept = c in
    let s = call (goal.at.returns kept).After-entry in
    lacks_output_lem _ _ _ _ _ _ _ s.requires.cases _ s.requires.t_lt_transitions _ _ c.entry-from.ensures.0 c.entry-upto.ensures.0 _ kept.entry.ensures.0 kept.if-entry-eq0.false _ c.capped_unkept.ensures
