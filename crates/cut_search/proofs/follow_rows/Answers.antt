use mathlib.Core.Path.{sym, ◌∙◌}
use native.Mathlib.Omega.{arith}
use Rattle.file.specs.Layout.{net_from}
use Rattle.cut_search.specs.Search.{draws_both}
use Rattle.cut_search.proofs.Turns.{Halfway, halfway_followed, halfway_none, turned, nexts_of, lowers, raises, row_at}
use Rattle.cut_search.proofs.follow_rows.Goals as goal
use Rattle.cut_search.proofs.follow_rows.Goals.{then-draws_both, else-draws_both, Joined-draws_both, Start}

abbrev call : Joined-draws_both → Start
call c = (goal.at.Joined-draws_both c).Start

pub follow-m-requires : goal.follow-m-requires
follow-m-requires c =
    let s = c in
    (s.requires.0, nexts_of _ s.args.h _ _ s.requires.1, row_at _ s.args.h _ _ s.requires.1 _ (omega (arith, s.requires.2)), s.requires.3, s.requires.4)

-- after the row that lowers p, or without it
halfway : (c : Joined-draws_both) → let s = call c in
    Halfway s.args.file.now s.args.h (draws_both (net_from s.args.file.now s.args.h) s.args.all s.args.both.now s.args.p) s.args.p s.args.marks c.if-draws_both.m s.args.places.now s.args.transitions.now c.if-draws_both.places c.if-draws_both.transitions
halfway c =
    let s = call c in
    let is = sym c.draws_both.ensures in
    elim c.if-draws_both.branch [
      | then-draws_both w ↦ halfway_followed _ s.args.h _ _ _ _ _ (is ∙ w.if-draws_both.true) _ _ _ _ _ _ (w.follow-m.ensures 0 s.args.p (omega arith) (lowers _ s.args.h _ _ s.requires.1 _ s.requires.2)) w.places-is w.transitions-is w.m-is
      | else-draws_both w ↦ halfway_none _ s.args.h _ _ _ _ _ (is ∙ w.if-draws_both.false) s.requires.4 _ _ _ w.places-is w.transitions-is w.m-is
    ]

pub follow-requires : goal.follow-requires
follow-requires c =
    let joined = c in
    let s = call (goal.at.follow-requires joined).Joined-draws_both in
    (s.requires.0, nexts_of _ s.args.h _ _ s.requires.1, row_at _ s.args.h _ _ s.requires.1 _ (omega (arith, s.requires.2)), s.requires.3, (halfway (goal.at.follow-requires joined).Joined-draws_both).grown.sets)

pub returns : goal.returns
returns c =
    let joined = c in
    let s = call (goal.at.returns joined).Joined-draws_both in
    turned _ s.args.h _ _ _ _ _ _ _ _ _ _ _ _ (halfway (goal.at.returns joined).Joined-draws_both) (c.follow.ensures 1 s.args.p (omega arith) (raises _ s.args.h _ _ s.requires.1 _ s.requires.2))
