use mathlib.Core.Path.{sym, ◌∙◌}
use native.Mathlib.Omega.{arith}
use borrow.Author.Tests.{ltb-true, ltb-false}
use Rattle.refusals.proofs.Numbers.{passed_on}
use Rattle.slice.specs.Kept.{kept_pair}
use Rattle.run_cut.proofs.Outcomes.{count_few, no_entries, no_room, whole}
use Rattle.run_cut.proofs.write.Goals as goal

pub returns-then-lacks : goal.returns-then-lacks
returns-then-lacks c =
    let a = c.args in
    no_entries _ a.h _ _ _ (kept_pair a.places.now a.transitions.now) _ c.requires.given c.requires.fed_by _ _ (ltb-true _ _ (sym c.lacks.ensures ∙ c.if-lacks.true))

pub returns-in_err-cut : goal.returns-in_err-cut
returns-in_err-cut c =
    let a = c.args in
    rw (passed_on _ c.from_residual.ensures.1)
    (no_room _ a.h _ _ _ (kept_pair a.places.now a.transitions.now) _ c.requires.given c.requires.fed_by _ _ _ c.in_err-cut.ensures.buffer _ c.in_err-cut.ensures.answer)

pub overflow_cast-chosen : goal.overflow_cast-chosen
overflow_cast-chosen c =
    let a = c.args in
    omega (arith, c.write_positions-count.ensures.0, count_few _ a.h _ _ _ (kept_pair a.places.now a.transitions.now) _ c.requires.given c.requires.fed_by a.buffer.now a.positions.now)

pub returns : goal.returns
returns c =
    let a = c.args in
    whole _ a.h _ _ _ (kept_pair a.places.now a.transitions.now) _ c.requires.given c.requires.fed_by _ _ _ c.in_ok-cut.ensures.buffer _ c.in_ok-cut.ensures.answer
    (ltb-false _ _ (sym c.lacks.ensures ∙ c.if-lacks.false)) _ c.write_positions-count.ensures.0 _ c.write_positions-count.ensures.1
