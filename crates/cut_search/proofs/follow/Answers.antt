use borrow.Author.Rules.{rules}
use Rattle.cut_search.proofs.Turns.{Following, following_none, following_more, following_end, row_below, row_arc, row_begun, row_from, row_split, row_less}
use Rattle.cut_search.proofs.follow.Goals as goal
use Rattle.cut_search.proofs.follow.Goals.{At-loop-e}

-- the row that was asked for
along : (c : At-loop-e) → let start = c in
    Following start.args.file.now start.args.h start.requires.2.direction start.requires.2.place c.loop-e.e start.args.marks c.loop-e.m start.args.places.now start.args.transitions.now c.loop-e.places c.loop-e.transitions
along c = let row = c.requires.2 in c.loop-e.invariant row.direction row.place row.way row.last

pub loop-e-init : goal.loop-e-init
loop-e-init c = let start = c in λ d p way last. following_none _ start.args.h d p _ _ _ _ start.requires.4 last

pub overflow_sub-e : goal.overflow_sub-e
overflow_sub-e c =
    let start = c in
    let x = along (goal.at.overflow_sub-e c).At-loop-e in
    let n = c.loop-e-test.true in
    let b = row_begun _ start.args.h start.requires.0 _ start.requires.1 _ _ _ _ _ _ _ _ _ x n in search rules

pub keep_transition-m-requires : goal.keep_transition-m-requires
keep_transition-m-requires c =
    let start = c in
    let x = along (goal.at.keep_transition-m-requires c).At-loop-e in
    let n = c.loop-e-test.true in
    record { sound = (start.requires.0, row_from _ start.args.h start.requires.0 _ start.requires.1 _ _ _ _ _ _ _ _ _ x n, row_split _ start.args.h start.requires.0 _ start.requires.1 _ _ _ _ _ _ _ _ _ x n); capped_value = (start.requires.3, x.grown.sets) }

pub overflow_sub-e-in-loop-e : goal.overflow_sub-e-in-loop-e
overflow_sub-e-in-loop-e c =
    let start = c in
    let x = along (goal.at.overflow_sub-e-in-loop-e c).At-loop-e in
    let n = c.loop-e-test.true in
    let b = row_arc _ start.args.h start.requires.0 _ start.requires.1 _ _ _ _ _ _ _ _ _ x n in search rules

pub offset_bounds-next-e : goal.offset_bounds-next-e
offset_bounds-next-e c =
    let start = c in
    let x = along (goal.at.offset_bounds-next-e c).At-loop-e in
    let n = c.loop-e-test.true in
    let b = row_below _ start.args.h start.requires.0 _ start.requires.1 _ _ _ _ _ _ _ _ _ x n in let u = start.requires.0.placed.arcs in search rules

pub bounds-next-e : goal.bounds-next-e
bounds-next-e c =
    let start = c in
    let x = along (goal.at.bounds-next-e c).At-loop-e in
    let n = c.loop-e-test.true in
    let b = row_below _ start.args.h start.requires.0 _ start.requires.1 _ _ _ _ _ _ _ _ _ x n in let u = start.requires.1.long in search rules

pub loop-e-smaller : goal.loop-e-smaller
loop-e-smaller c =
    let start = c in
    let x = along (goal.at.loop-e-smaller c).At-loop-e in
    let n = c.loop-e-test.true in
    row_less _ start.args.h start.requires.0 _ start.requires.1 _ _ _ _ _ _ _ _ _ x n

pub loop-e-preserved : goal.loop-e-preserved
loop-e-preserved c =
    let start = c in
    let n = c.loop-e-test.true in
    λ d p way last. following_more _ start.args.h start.requires.0 _ start.requires.1 d p _ _ _ _ _ _ _ (c.loop-e.invariant d p way last) n _ _ _ c.keep_transition-m.ensures

pub returns : goal.returns
returns c = let start = c in λ d p way last. following_end _ start.args.h start.requires.0 _ start.requires.1 d p _ _ _ _ _ _ _ (c.loop-e.invariant d p way last) way c.loop-e-test.false
