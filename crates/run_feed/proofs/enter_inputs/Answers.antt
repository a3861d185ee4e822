use Prim.Native.Nat.{◌+◌, ◌*◌}
use mathlib.Core.Path.{◌≡◌, sym, ap, ◌∙◌}
use native.Mathlib.Omega.{arith}
use Rattle.net.specs.declared.Arc.{Arc}
use Rattle.file.proofs.Rows.{good_at}
use Rattle.arcs_column.specs.Ways.{transition_at, direction_at}
use Rattle.run_feed.proofs.Raising.{inputs_none, inputs_more, inputs_stop, inputs_all}
use Rattle.run_feed.proofs.enter_inputs.Goals as goal
use Rattle.run_feed.proofs.enter_inputs.Goals.{After-arc-a}

-- the transition and the direction of the arc as one number
sum : (c : After-arc-a) → c.arc-a.result.transition + c.arc-a.result.direction * 65536 ≡ transition_at c.args.file.now c.args.h.arcstart c.loop-j.j + direction_at c.args.file.now c.args.h.arcstart c.loop-j.j * 65536
sum c = ap (λ (a : Arc). a.transition + a.direction * 65536) c.arc-a.ensures.0

pub loop-j-init : goal.loop-j-init
loop-j-init c = inputs_none _ c.args.h _ c.requires.sound.0 _ _ c.requires.t_lt_transitions.0 c.requires.t_lt_transitions.1 _ _ c.requires.sound.2

pub returns-then-a-t : goal.returns-then-a-t
returns-then-a-t c =
    inputs_stop _ c.args.h _ c.requires.sound.0 _ _ c.requires.t_lt_transitions.0 c.requires.t_lt_transitions.1 _ _ _ _ _ c.loop-j.invariant c.loop-j-test.true
    (λ e. c.if-a-t.true (sum (goal.at.returns-then-a-t c).After-arc-a ∙ e))

pub enter-requires : goal.enter-requires
enter-requires c =
    let good = good_at c.args.file.now c.args.h c.requires.sound.0 c.loop-j.j c.loop-j-test.true in (
      c.requires.sound.0,
      c.requires.sound.1,
      omega (arith, ap (λ (a : Arc). a.place) c.arc-a.ensures.0, good.place),
      c.loop-j.invariant.entered.places_long,
      c.requires.sound.3,
      omega (arith, c.requires.sound.4, c.loop-j.invariant.entered.first_long),
    )

pub loop-j-preserved : goal.loop-j-preserved
loop-j-preserved c =
    inputs_more _ c.args.h _ c.requires.sound.0 _ _ c.requires.t_lt_transitions.0 c.requires.t_lt_transitions.1 _ _ _ _ _ c.loop-j.invariant c.loop-j-test.true
    (sym (sum (goal.at.loop-j-preserved c).After-arc-a) ∙ c.if-a-t.false) _ _ _ (ap (λ (a : Arc). a.place) c.arc-a.ensures.0) c.enter.ensures

pub returns : goal.returns
returns c =
    inputs_all _ c.args.h _ c.requires.sound.0 _ _ c.requires.t_lt_transitions.0 c.requires.t_lt_transitions.1 _ _ _ _ _ c.loop-j.invariant
    (omega (arith, c.loop-j-test.false, c.requires.t_lt_transitions.1.within))
