use Rattle.net.specs.Checker.{breaks, rule7}
use Rattle.rules_arcs.proofs.Lacking.{lacks_not, inputs_run, lacks_input_lem}
use Rattle.rules_arcs.proofs.lacks_input.Goals as goal
use Rattle.rules_arcs.proofs.lacks_input.Goals.{After-entry, Start}

abbrev call : After-entry → Start
call c = (goal.at.After-entry c).Start

pub returns-then-entry-eq0 : goal.returns-then-entry-eq0
unfolding breaks rule7
returns-then-entry-eq0 c = let s = call (goal.at.returns-then-entry-eq0 c).After-entry in lacks_not _ _ _ _ _ _ _ s.requires.cases _ s.requires.t_lt_transitions _ c.entry.ensures.0 c.if-entry-eq0.true _

pub unkept-requires : goal.unkept-requires
unkept-requires c =
    let s = call (goal.at.unkept-requires c).After-entry in
    inputs_run _ _ _ _ _ _ _ s.requires.cases _ s.requires.t_lt_transitions _ _ c.entry-from.ensures.0 c.entry-to.ensures.0

pub returns : goal.returns
returns c =
    let kept = c in
    let s = call (goal.at.returns kept).After-entry in
    lacks_input_lem _ _ _ _ _ _ _ s.requires.cases _ s.requires.t_lt_transitions _ _ c.entry-from.ensures.0 c.entry-to.ensures.0 _ kept.entry.ensures.0 kept.if-entry-eq0.false _ c.unkept.ensures
