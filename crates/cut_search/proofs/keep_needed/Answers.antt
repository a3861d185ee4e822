use mathlib.Core.Path.{◌≡◌, sym, ap, ◌∙◌}
use native.Mathlib.Omega.{arith}
use Rattle.net.specs.declared.Arc.{Arc}
use Rattle.file.proofs.Rows.{good_at}
use Rattle.arcs_column.specs.Ways.{transition_at}
use Rattle.cut_search.proofs.Needed.{needed_none, needed_more, needed_stop, needed_all}
use Rattle.cut_search.proofs.keep_needed.Goals as goal
use Rattle.cut_search.proofs.keep_needed.Goals.{After-arc-a}

-- the transition of the arc
same : (c : After-arc-a) → c.arc-a.result.transition ≡ transition_at c.args.file.now c.args.h.arcstart c.loop-j.j
same c = ap (λ (a : Arc). a.transition) c.arc-a.ensures.0

pub loop-j-init : goal.loop-j-init
loop-j-init c = let r = c.requires in needed_none _ c.args.h r.0 _ _ r.2 _ _ r.3

pub returns-then-a-t : goal.returns-then-a-t
returns-then-a-t c =
    let r = c.requires in
    needed_stop _ c.args.h r.0 _ _ r.2 _ _ _ _ _ c.loop-j.invariant c.loop-j-test.true (λ e. c.if-a-t.true (same (goal.at.returns-then-a-t c).After-arc-a ∙ e))

pub keep_place-m-requires : goal.keep_place-m-requires
keep_place-m-requires c =
    let sound = c.requires.0 in
    let good = good_at c.args.file.now c.args.h sound c.loop-j.j c.loop-j-test.true in
    (sound, omega (arith, ap (λ (a : Arc). a.place) c.arc-a.ensures.0, good.place), c.loop-j.invariant.kept.long)

pub loop-j-preserved : goal.loop-j-preserved
loop-j-preserved c =
    let r = c.requires in
    needed_more _ c.args.h r.0 _ _ r.2 _ _ _ _ _ c.loop-j.invariant c.loop-j-test.true
    (sym (same (goal.at.loop-j-preserved c).After-arc-a) ∙ c.if-a-t.false) _ c.arc-a.ensures.0 _ _ c.keep_place-m.ensures

pub returns : goal.returns
returns c = let r = c.requires in needed_all _ c.args.h r.0 _ _ r.2 _ _ _ _ _ c.loop-j.invariant c.loop-j-test.false
