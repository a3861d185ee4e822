use mathlib.Core.Path.{◌∙◌}
use native.Mathlib.Omega.{arith}
use Rattle.file.specs.Layout.{net_from}
use Rattle.replay_steps.specs.Steps.{held}
use Rattle.replay_firing.specs.Firing.{unfired}
use Rattle.replay_firing.proofs.Firing.{Runs, runs, run_of, turned, unfired-off}
use Rattle.replay_firing.proofs.unfire.Goals as goal
use Rattle.replay_firing.proofs.unfire.Goals.{After-entry-to, Start}

-- ---- the states: the call, the arcs of t known

abbrev call : After-entry-to → Start
call c = (goal.at.After-entry-to c).Start

arcs_of : (c : After-entry-to) → let s = call c in Runs s.args.file.now s.args.h s.args.t c.entry-from.result c.entry-middle.result c.entry-to.result
arcs_of c =
    let s = call c in
    runs s.requires.ready s.requires.left.known c.entry-from.ensures.0 c.entry-middle.ensures.0 c.entry-to.ensures.0

pub take-requires : goal.take-requires
take-requires c =
    let s = call (goal.at.take-requires c).After-entry-to in
    let x = arcs_of (goal.at.take-requires c).After-entry-to in
    record { run = run_of s.requires.ready s.requires.ready.places (omega (arith, x.first, x.second)) (omega (arith, x.second, x.within)); by_index = λ p. omega (arith, x.inputs p, x.outputs p, s.requires.left.added p) }

pub give-requires : goal.give-requires
give-requires c =
    let take = c in
    let known = take in
    let s = call (goal.at.give-requires known).After-entry-to in
    let x = arcs_of (goal.at.give-requires known).After-entry-to in
    let y = take.take.ensures in
    record { run = run_of s.requires.ready (y.long ∙ s.requires.ready.places) (omega (arith, x.first, x.second)) (omega (arith, x.second, x.within)); by_index = λ p. omega (arith, y.at p, x.inputs p, x.outputs p, x.taken p, x.given p, x.few, s.requires.left.low p) }

pub returns : goal.returns
returns c =
    let give = c in
    let take = give in
    let known = take in
    let s = call (goal.at.returns known).After-entry-to in
    let x = arcs_of (goal.at.returns known).After-entry-to in
    turned s.requires.ready take.take.ensures give.give.ensures (unfired (net_from s.args.file.now s.args.h) s.args.t (held s.args.marking.now)) (unfired-off s.requires.ready s.args.t)
    (λ p u v. omega (arith, u, v, x.inputs p, x.outputs p, s.requires.left.added p))
