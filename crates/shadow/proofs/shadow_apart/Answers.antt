use Prim.Native.Nat.{ℕ}
use mathlib.Core.List.{List, ◌++◌}
use mathlib.Core.Path.{ap}
use lib.ListN.{drop}
use Rattle.refusals.proofs.Numbers.{passed_on}
use Rattle.shadow.proofs.Runs.{given_by, follows_unreplayed, follows_unwritten, follows_apart}
use Rattle.shadow.proofs.shadow_apart.Goals as goal

pub returns-in_err-o : goal.returns-in_err-o
returns-in_err-o c =
    rw (passed_on _ c.from_residual.ensures.1)
    (follows_unreplayed c.args.plan.now c.args.p _ c.args.list.now _ c.args.apart.now _ _ c.requires.roomy.apart_long c.requires.roomy.marking_long c.in_err-o.ensures.answer)

pub project_fired-requires : goal.project_fired-requires
project_fired-requires c =
    (given_by c.args.plan.now c.args.p c.args.list.now _ c.requires.sound.0 c.requires.sound.1 c.in_ok-o.ensures.answer, c.requires.roomy.sound.placed.transitions)

pub returns-in_err-r : goal.returns-in_err-r
returns-in_err-r c =
    rw (passed_on _ c.from_residual-in_err-r.ensures.1)
    (follows_unwritten c.args.plan.now c.args.p _ c.args.list.now _ c.args.apart.now _ _ c.requires.roomy.apart_long c.requires.roomy.marking_long c.in_ok-o.ensures.answer c.in_err-r.ensures)

pub returns : goal.returns
returns c =
    follows_apart c.args.plan.now c.args.p _ c.args.list.now _ c.args.apart.now _ _ c.requires.roomy.apart_long c.requires.roomy.marking_long c.in_ok-o.ensures.answer c.in_ok-o.ensures.marking c.in_ok-r.ensures
    (ap (λ (x : List ℕ). x ++ drop c.args.p.places c.args.marking.now) c.copy.ensures)
