use Prim.Native.Nat.{◌+◌, ◌*◌}
use mathlib.Core.Path.{◌≡◌, sym, ap, ◌∙◌}
use native.Mathlib.Omega.{arith}
use Rattle.net.specs.declared.Arc.{Arc}
use Rattle.file.proofs.Rows.{good_at}
use Rattle.arcs_column.specs.Ways.{transition_at, direction_at}
use Rattle.cut_search.proofs.Steps.{inputs_none, inputs_more, inputs_stop, inputs_all}
use Rattle.cut_search.proofs.keep_inputs.Goals as goal
use Rattle.cut_search.proofs.keep_inputs.Goals.{After-arc-a}

-- the transition and the direction of the arc as one number
sum : (c : After-arc-a)
    → c.arc-a.result.transition + c.arc-a.result.direction * 65536 ≡ transition_at c.args.file.now c.args.h.arcstart c.loop-j.j + direction_at c.args.file.now c.args.h.arcstart c.loop-j.j * 65536
sum c = ap (λ (a : Arc). a.transition + a.direction * 65536) c.arc-a.ensures.0

pub loop-j-init : goal.loop-j-init
loop-j-init c = let r = c.requires in inputs_none _ c.args.h r.0 _ _ r.1 r.2 _ _ r.3

pub returns-then-a-t : goal.returns-then-a-t
returns-then-a-t c =
    let r = c.requires in
    inputs_stop _ c.args.h r.0 _ _ r.1 r.2 _ _ _ _ _ c.loop-j.invariant c.loop-j-test.true (λ e. c.if-a-t.true (sum (goal.at.returns-then-a-t c).After-arc-a ∙ e))

pub keep-m-requires : goal.keep-m-requires
keep-m-requires c =
    let sound = c.requires.0 in
    let good = good_at c.args.file.now c.args.h sound c.loop-j.j c.loop-j-test.true in
    (omega (arith, ap (λ (a : Arc). a.place) c.arc-a.ensures.0, sound.placed.places, good.place), c.loop-j.invariant.kept.long)

pub loop-j-preserved : goal.loop-j-preserved
loop-j-preserved c =
    let r = c.requires in
    inputs_more _ c.args.h r.0 _ _ r.1 r.2 _ _ _ _ _ c.loop-j.invariant c.loop-j-test.true
    (sym (sum (goal.at.loop-j-preserved c).After-arc-a) ∙ c.if-a-t.false) _ _ _ (ap (λ (a : Arc). a.place) c.arc-a.ensures.0) c.keep-m.ensures

pub returns : goal.returns
returns c = let r = c.requires in inputs_all _ c.args.h r.0 _ _ r.1 r.2 _ _ _ _ _ c.loop-j.invariant c.loop-j-test.false
