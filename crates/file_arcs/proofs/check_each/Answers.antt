use Rattle.std.proofs.Common.{◌≡◌, ℕ, ◌+◌, ◌*◌, ◌-◌, ◌≤◌, ◌<◌, sym, ap, ◌∙◌, arith}
use Rattle.net.specs.declared.Arc.{Arc}
use Rattle.file_arcs.specs.Facts.{arc_unfit}
use Rattle.file_arcs.specs.Refusal.{arc_wrong, key}
use Rattle.file_arcs.proofs.Words.{unfit-wrong}
use Rattle.file_arcs.proofs.Laws.{arcs_6, arcs_7, arcs_on, arcs_end}
use Rattle.file_arcs.proofs.check_each.Goals as goal

unfit_is : (P T : ℕ) {a b : Arc} {middle : ℕ} (spare : ℕ) → a ≡ b → middle ≡ b.direction + 256 * spare → arc_unfit P T a middle ≡ arc_wrong P T b spare
unfit_is P T {a} {b} {middle} spare e f = rw (e, f) (unfit-wrong P T b spare)

pub returns-then-unfit : goal.returns-then-unfit
returns-then-unfit c =
    let some : 0 < c.args.count - c.loop-i.i = omega (arith, c.loop-i-test.true) in
    let wrong = c.unfit.ensures ∙ unfit_is _ _ _ (c.arc_of-a.ensures.0 ∙ c.word-w.ensures.arc) c.word-w.ensures.middle in
    sym (c.loop-i.invariant ∙ arcs_6 _ _ _ _ _ _ some (sym wrong ∙ c.if-unfit.true))

pub returns-then-key-least : goal.returns-then-key-least
returns-then-key-least c =
    let some : 0 < c.args.count - c.loop-i.i = omega (arith, c.loop-i-test.true) in
    let arc = c.arc_of-a.ensures.0 ∙ c.word-w.ensures.arc in
    let wrong = c.unfit.ensures ∙ unfit_is _ _ _ arc c.word-w.ensures.middle in
    let its = c.order-key.ensures.0 ∙ ap key arc in
    sym (c.loop-i.invariant ∙ arcs_7 _ _ _ _ _ _ some (sym wrong ∙ c.if-unfit.false) (rw (← its) c.if-key-least.true))

pub loop-i-preserved : goal.loop-i-preserved
loop-i-preserved c =
    let i = c.loop-i.i in
    let at = c.args.start + 8 * i in
    let some : 0 < c.args.count - i = omega (arith, c.loop-i-test.true) in
    let next : c.args.start + 8 * (i + 1) ≡ at + 8 = omega arith in
    let fewer : c.args.count - (i + 1) ≡ c.args.count - i - 1 = omega arith in
    let arc = c.arc_of-a.ensures.0 ∙ c.word-w.ensures.arc in
    let wrong = c.unfit.ensures ∙ unfit_is _ _ _ arc c.word-w.ensures.middle in
    let its = c.order-key.ensures.0 ∙ ap key arc in
    rw (next, fewer, its)
    (c.loop-i.invariant ∙ arcs_on _ _ _ _ _ _ some (sym wrong ∙ c.if-unfit.false) (rw (← its) c.if-key-least.false))

pub returns : goal.returns
returns c =
    let none : c.args.count - c.loop-i.i ≤ 0 = omega (arith, c.loop-i-test.false) in
    sym (c.loop-i.invariant ∙ arcs_end _ _ _ _ _ _ none)
