use borrow.Author.Rules.{rules}
use native.Mathlib.Omega.{arith}
use Rattle.cut_index.proofs.Linking.{Next, linking_none, linking_end, linked_on, next-arc}
use Rattle.cut_index.proofs.index.Goals as goal
use Rattle.cut_index.proofs.index.Goals.{After-begin-from, After-link-j, At-loop-j, Start}

-- ---- the states: the call, the head of a turn, the arc read and where its transition's arcs start, the arc linked

abbrev Turn : Type 0
Turn = At-loop-j

abbrev call : Turn → Start
call c = (goal.at.At-loop-j c).Start

abbrev Begun : Type 0
Begun = After-begin-from

abbrev turn_of : Begun → Turn
turn_of c = (goal.at.After-begin-from c).At-loop-j

abbrev begun : After-link-j → Begun
begun c = (goal.at.After-link-j c).After-begin-from

-- the arc of the turn, to be linked
next_at : (c : Begun) → let t = turn_of c in let s = call t in
    Next s.args.file.now s.args.h s.args.head.now s.args.next.now t.loop-j.head t.loop-j.next c.begin-from.result t.loop-j.j c.arc-a.result
next_at c =
    let t = turn_of c in
    let s = call t in
    next-arc s.requires.sound t.loop-j.invariant c.loop-j-test.true s.requires.places_in_bounds.0 s.requires.places_in_bounds.1 _ c.arc-a.ensures.0 _ c.begin-from.ensures

pub loop-j-init : goal.loop-j-init
loop-j-init c = linking_none _ _ _ _ c.requires.by_index

pub link-j-requires : goal.link-j-requires
link-j-requires c = let n = next_at (goal.at.link-j-requires c).After-begin-from in (n.room, n.way)

pub loop-j-smaller : goal.loop-j-smaller
loop-j-smaller c =
    let done = c in
    omega (arith, linked_on done.link-j.ensures, (begun (goal.at.loop-j-smaller done).After-link-j).loop-j-test.true)

pub loop-j-preserved : goal.loop-j-preserved
loop-j-preserved c =
    let done = c in
    (next_at (begun (goal.at.loop-j-preserved done).After-link-j)).more _ _ (search rules) (search rules) _ done.link-j.ensures

pub shape_of-head : goal.shape_of-head
shape_of-head c = c.loop-j.invariant.head_long

pub shape_of-next : goal.shape_of-next
shape_of-next c = c.loop-j.invariant.next_long

pub returns : goal.returns
returns c =
    let t = c in
    let s = call (goal.at.returns t).At-loop-j in
    linking_end _ _ _ _ _ _ _ _ _ t.loop-j.invariant c.loop-j-test.false s.requires.places_in_bounds.0 s.requires.places_in_bounds.1
