use mathlib.Core.Bool.{◌&&◌}
use mathlib.Core.Path.{sym, ◌∙◌}
use lib.Dec.{eqb, eqb→eq}
use native.Mathlib.Omega.{arith}
use Rattle.net.proofs.Numbers.{holds, is_true, and_left, and_right}
use Rattle.check_fast.proofs.Walking.{walked_doubt, walked_past, walked_end, settled_less}
use Rattle.check_fast.proofs.pass.Goals as goal

pub stretch-at-requires-in-loop-at-clause-walked : goal.stretch-at-requires-in-loop-at-clause-walked
stretch-at-requires-in-loop-at-clause-walked c =
    let settled = c.look-doubt.ensures (omega (arith, c.if-doubt-le4.false)) in
    walked_past _ _ _ _ _ _ _ _ _ (walked_doubt _ _ _ _ _ _ _ _ _ c.loop-at.invariant.0 _ (omega (arith, c.min.ensures))) c.loop-at-test.true (settled_less _ _ _ _ _ _ _ _ (omega (arith, c.min.ensures)) settled)

pub returns-then-quiet-at : goal.returns-then-quiet-at
returns-then-quiet-at c = λ g.
    let calm = c.quiet.result in
    let all = eqb c.loop-at.at.own c.args.hs.arcs in
    let h = holds (calm && all) c.if-quiet-at.true in
    walked_end _ _ _ _ _ _ _ _ _ c.loop-at.invariant.0 c.loop-at-test.false (eqb→eq _ _ (and_right calm all h)) (sym c.quiet.ensures ∙ is_true calm (and_left calm all h))
