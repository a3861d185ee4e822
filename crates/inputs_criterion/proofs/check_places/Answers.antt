use Rattle.std.proofs.Common.{◌≡◌, ◌+◌, ◌-◌, ◌*◌, ◌≤◌, ◌<◌, sym, ◌∙◌, arith}
use Rattle.inputs_criterion.proofs.Places.{bytes-10, bytes_on, bytes-end}
use Rattle.inputs_criterion.proofs.check_places.Goals as goal

pub returns-then-misplaced : goal.returns-then-misplaced
returns-then-misplaced c =
    let some : 0 < c.args.count - c.loop-i.i = omega (arith, c.loop-i-test.true) in
    sym (c.loop-i.invariant ∙ bytes-10 _ _ _ _ _ some _ c.get16-next.ensures.0 (sym c.misplaced.ensures ∙ c.if-misplaced.true))

pub loop-i-preserved : goal.loop-i-preserved
loop-i-preserved c =
    let i = c.loop-i.i in
    let some : 0 < c.args.count - i = omega (arith, c.loop-i-test.true) in
    let next : 2 * (i + 1) ≡ 2 * i + 2 = omega arith in
    let fewer : c.args.count - (i + 1) ≡ c.args.count - i - 1 = omega arith in
    rw (next, fewer)
    (c.loop-i.invariant ∙ bytes_on _ _ _ _ _ some _ c.get16-next.ensures.0 (sym c.misplaced.ensures ∙ c.if-misplaced.false))

pub returns : goal.returns
returns c =
    let none : c.args.count - c.loop-i.i ≤ 0 = omega (arith, c.loop-i-test.false) in
    sym (c.loop-i.invariant ∙ bytes-end _ _ _ _ _ none)
