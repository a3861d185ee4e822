use mathlib.Core.Path.{sym, ◌∙◌}
use native.Mathlib.Omega.{arith}
use Rattle.check_fast.proofs.Walking.{joined-fits}
use Rattle.check_fast.proofs.Settling.{eighth_in_doubt, sixth_in_doubt}
use Rattle.check_fast.proofs.doubt_at.Goals as goal
use Rattle.check_fast.proofs.doubt_at.Goals.{After-word-w, Start}

abbrev start : After-word-w → Start
start c = (goal.at.After-word-w c).Start

pub joined-z-requires : goal.joined-z-requires
joined-z-requires c =
    let pre = (start c).requires in
    let f = joined-fits _ _ _ _ _ _ _ pre.ready _ pre.j_lt_arcs _ c.word-w.ensures (omega arith) in
    record { w_in_bounds = (f.0, f.1); transitions_bound = f.2 }

pub returns-then-z-eq8 : goal.returns-then-z-eq8
returns-then-z-eq8 c = λ h.
    let read = c in
    let pre = (start (goal.at.returns-then-z-eq8 read).After-word-w).requires in
    eighth_in_doubt _ _ _ _ _ _ _ pre.ready _ pre.j_lt_arcs _ read.word-w.ensures (omega arith) _ c.joined-z.ensures c.if-z-eq8.true

pub returns : goal.returns
returns c = λ h.
    let sum = c in
    let read = sum in
    let pre = (start (goal.at.returns read).After-word-w).requires in
    sixth_in_doubt _ _ _ _ _ _ _ pre.ready _ pre.j_lt_arcs _ read.word-w.ensures (omega arith) _ sum.joined-z.ensures (sym c.kept.ensures ∙ c.if-kept.false)
