use Prim.Native.Nat.{◌+◌, ◌-◌, ◌*◌}
use mathlib.Core.Path.{◌≡◌, ap, ◌∙◌}
use native.Mathlib.Omega.{arith}
use lib.ListN.{get_or}
use Rattle.net.specs.Checker.{same_arc}
use Rattle.net.specs.declared.Arc.{Arc}
use Rattle.file_arcs.specs.Layout.{arc_at}
use Rattle.rules_arcs.specs.Links.{numbered}
use Rattle.rules_arcs.proofs.Walking.{one_word, step_out, step_end, step_same, step_other}
use Rattle.rules_arcs.proofs.step.Goals as goal
use Rattle.rules_arcs.proofs.step.Goals.{After-entry-place, After-same, After-word-w, Start}

abbrev start : After-word-w → Start
start c = (goal.at.After-word-w c).Start

-- from where the words are compared, back to where the place was looked up
abbrev looked_up : After-same → After-entry-place
looked_up c = (goal.at.After-same c).After-entry-place

-- the entry is that of the plan's arc
place_of : (c : After-entry-place) → c.entry-place.result ≡ get_or (start (goal.at.After-entry-place c).After-word-w).args.ownp.now (arc_at (start (goal.at.After-entry-place c).After-word-w).args.plan.now (start (goal.at.After-entry-place c).After-word-w).args.at).place 0
place_of c = c.entry-place.ensures.0 ∙ ap (λ (a : Arc). get_or (start (goal.at.After-entry-place c).After-word-w).args.ownp.now a.place 0) c.word-w.ensures.arc

-- the comparison is that of the two arcs
compared : (c : After-same)
    → let s = start (goal.at.After-entry-place (looked_up c)).After-word-w in
    c.same.result ≡ same_arc (arc_at s.args.slice.now (s.args.hs.arcstart + 8 * s.args.k)) (numbered (arc_at s.args.plan.now s.args.at) s.args.own ((looked_up c).entry-place.result - 1))
compared c =
    let e = looked_up c in
    let s = start (goal.at.After-entry-place e).After-word-w in
    let below = c.if-upto-k.false in
    c.same.ensures
    ∙ one_word _ _ _ e.word-w.ensures s.requires.walk.zero _ _ _ c.word-v.ensures
    (s.requires.against.sliced.zeros s.args.k (omega (arith, s.requires.against.within)))
    _ _ s.requires.walk.low (omega (arith, e.entry-place.ensures.1))

pub returns-then-place-eq0 : goal.returns-then-place-eq0
returns-then-place-eq0 c =
    let e = c in
    let s = start (goal.at.returns-then-place-eq0 e).After-word-w in
    step_out _ _ _ _ _ _ _ _ s.requires.walk s.requires.against _ (place_of (goal.at.returns-then-place-eq0 e).After-entry-place) c.if-place-eq0.true

pub returns-then-upto-k : goal.returns-then-upto-k
returns-then-upto-k c =
    let e = c in
    let s = start (goal.at.returns-then-upto-k e).After-word-w in
    step_end _ _ _ _ _ _ _ _ s.requires.walk s.requires.against _ (place_of (goal.at.returns-then-upto-k e).After-entry-place) c.if-place-eq0.false c.if-upto-k.true

pub returns-then-same : goal.returns-then-same
returns-then-same c =
    let e = looked_up (goal.at.returns-then-same c).After-same in
    let s = start (goal.at.After-entry-place e).After-word-w in
    let none = c in
    step_same _ _ _ _ _ _ _ _ s.requires.walk s.requires.against _ (place_of e) none.if-place-eq0.false none.if-upto-k.false _ (compared (goal.at.returns-then-same c).After-same) c.if-same.true

pub returns : goal.returns
returns c =
    let e = looked_up (goal.at.returns c).After-same in
    let s = start (goal.at.After-entry-place e).After-word-w in
    let none = c in
    step_other _ _ _ _ _ _ _ _ s.requires.walk s.requires.against _ (place_of e) none.if-place-eq0.false none.if-upto-k.false _ (compared (goal.at.returns c).After-same) c.if-same.false
