use Prim.Native.Nat.{◌≤◌}
use native.Mathlib.Omega.{arith}
use Rattle.rules_arcs.proofs.Differing.{Ready, ready, differs_not, own-low}
use Rattle.rules_arcs.proofs.differs.Goals as goal
use Rattle.rules_arcs.proofs.differs.Goals.{After-entry-own, After-entry-upto, Else-own-eq0, Start}

-- ---- the states: the own number read, the transition kept, the ends of both runs read

abbrev call : After-entry-own → Start
call c = (goal.at.After-entry-own c).Start

abbrev kept_of : After-entry-upto → Else-own-eq0
kept_of c = (goal.at.After-entry-upto c).Else-own-eq0

-- the own number is one of the slice's
low : (c : Else-own-eq0) → c.entry-own.result ≤ (call (goal.at.Else-own-eq0 c).After-entry-own).args.hs.transitions
low c = let s = call (goal.at.Else-own-eq0 c).After-entry-own in own-low _ _ _ _ _ _ _ _ s.requires.cases s.requires.starts _ s.requires.t_lt_transitions _ c.entry-own.ensures.0 c.if-own-eq0.false

-- where the two runs stand
ready_at : (c : After-entry-upto) → let own = (kept_of c) in let s = call (goal.at.Else-own-eq0 own).After-entry-own in
    Ready s.args.plan.now s.args.hp s.args.slice.now s.args.hs s.args.ownp.now s.args.t own.entry-own.result c.entry-from.result c.entry-to.result c.entry-first.result c.entry-upto.result
ready_at c =
    let kept = kept_of c in
    let s = call (goal.at.Else-own-eq0 kept).After-entry-own in
    ready _ _ _ _ _ _ _ _ s.requires.cases s.requires.starts _ s.requires.t_lt_transitions _ kept.entry-own.ensures.0 kept.if-own-eq0.false _ _ _ _
    c.entry-from.ensures.0 c.entry-to.ensures.0 c.entry-first.ensures.0 c.entry-upto.ensures.0

pub returns-then-own-eq0 : goal.returns-then-own-eq0
returns-then-own-eq0 c = let s = call (goal.at.returns-then-own-eq0 c).After-entry-own in differs_not _ _ _ _ _ _ _ _ s.requires.cases s.requires.starts _ s.requires.t_lt_transitions _ c.entry-own.ensures.0 c.if-own-eq0.true

pub entry-first-requires : goal.entry-first-requires
entry-first-requires c =
    let kept = c in
    omega (arith, low (goal.at.entry-first-requires kept).Else-own-eq0, (call (goal.at.entry-first-requires kept).After-entry-own).requires.starts.long)

pub entry-upto-requires : goal.entry-upto-requires
entry-upto-requires c =
    let kept = c in
    omega (arith, low (goal.at.entry-upto-requires kept).Else-own-eq0, (call (goal.at.entry-upto-requires kept).After-entry-own).requires.starts.long)

pub other_run-requires : goal.other_run-requires
other_run-requires c = let k = ready_at c in record { run = k.run; by_index = k.walk; against = k.against }

pub returns : goal.returns
returns c = (ready_at (goal.at.returns c).After-entry-upto).answer _ c.other_run.ensures
