use mathlib.Core.Path.{sym, ◌∙◌}
use Rattle.refusals.proofs.Numbers.{passed_on}
use Rattle.shadow.proofs.Runs.{given_by, marking_long, follows_refused, follows_straight}
use Rattle.shadow.proofs.shadow_of.Goals as goal

pub returns-in_err-o : goal.returns-in_err-o
returns-in_err-o c = rw (passed_on _ c.from_residual.ensures.1) (follows_refused c.args.plan.now c.args.p _ c.args.list.now c.in_err-o.ensures.answer c.in_err-o.ensures.marking)

pub project_last-requires : goal.project_last-requires
project_last-requires c =
    (given_by c.args.plan.now c.args.p c.args.list.now _ c.requires.sound_2.0 c.requires.sound_2.1 c.in_ok-o.ensures.answer, c.requires.sound.placed.transitions)

-- it is certain that the marking stays
pub returns-then-certain : goal.returns-then-certain
returns-then-certain c =
    follows_straight c.args.plan.now c.args.p _ c.args.list.now (sym c.certain.ensures ∙ c.if-certain.true) c.in_ok-o.ensures.answer c.in_ok-o.ensures.marking c.project_last.ensures

pub shadow_sized-requires : goal.shadow_sized-requires
shadow_sized-requires c =
    record { sound = (c.requires.sound, marking_long c.args.p.places c.args.list.now c.args.out.now c.args.marking.now c.certain.ensures c.if-certain.false); sound_2 = c.requires.sound_2 }
