use mathlib.Core.Path.{◌∙◌}
use native.Mathlib.Omega.{arith}
use Rattle.replay_firing.proofs.Firing.{Runs, runs, run_of}
use Rattle.range.proofs.Need.{turned_back_lem}
use Rattle.range.proofs.step_back.Goals as goal
use Rattle.range.proofs.step_back.Goals.{After-entry-to}

-- the arcs of t
arcs_of : (c : After-entry-to) → Runs c.args.file.now c.args.h c.args.t c.entry-from.result c.entry-middle.result c.entry-to.result
arcs_of c = runs c.requires.ready c.requires.t_lt_transitions c.entry-from.ensures.0 c.entry-middle.ensures.0 c.entry-to.ensures.0

pub credit-requires : goal.credit-requires
credit-requires c =
    let x = arcs_of (goal.at.credit-requires c).After-entry-to in
    run_of c.requires.ready c.requires.ready.places (omega (arith, x.second)) (omega (arith, x.within))

pub give-requires-clause-run : goal.give-requires-clause-run
give-requires-clause-run c =
    let x = arcs_of (goal.at.give-requires-clause-run c).After-entry-to in
    run_of c.requires.ready (c.credit.ensures.long ∙ c.requires.ready.places) (omega (arith, x.first)) (omega (arith, x.second, x.within))

pub give-requires-clause-by_index : goal.give-requires-clause-by_index
give-requires-clause-by_index c =
    let x = arcs_of (goal.at.give-requires-clause-by_index c).After-entry-to in
    λ p. omega (arith, c.credit.ensures.at p, x.inputs p, x.taken p, x.few, c.requires.by_index p)

pub returns : goal.returns
returns c = turned_back_lem c.requires.ready (arcs_of (goal.at.returns c).After-entry-to) c.credit.ensures c.give.ensures
