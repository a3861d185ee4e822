use mathlib.Core.Path.{refl, sym, ap, ◌∙◌}
use Rattle.refusals.proofs.Numbers.{number_some}
use Rattle.promise.specs.Calls.{Checked}
use Rattle.promise.specs.Firing.{ReplayAnswer}
use Rattle.promise.proofs.Replays.{differ}
use Rattle.clients.proofs.Listed.{not_accepted, on_slice}
use Rattle.clients.proofs.Unplayed.{accepted_by, fired_by}
use Rattle.clients.proofs.lists.on_slice.Goals as goal

pub returns-in_err-v : goal.returns-in_err-v
returns-in_err-v c = λ a t p h. not_accepted _ _ _ c.in_err-v.ensures.answer refl (number_some _) a

pub returns-in_default : goal.returns-in_default
returns-in_default c = λ a t p h. absurd (c.in_default.not-Accepted (accepted_by _ (ap (λ (x : Checked). x.code) c.in_ok-v.ensures.answer ∙ a)))

pub returns-in_err-o : goal.returns-in_err-o
returns-in_err-o c = λ a t p h. differ (sym (ap (λ (x : ReplayAnswer). x.refused) (c.in_err-o.ensures.answer ∙ t)))

pub returns-in_default-o : goal.returns-in_default-o
returns-in_default-o c = λ a t p h. absurd (c.in_default-o.not-Fired (fired_by _ (ap (λ (x : ReplayAnswer). x.stuck) (c.in_ok-o.ensures.answer ∙ t))))

pub returns-in_err-again : goal.returns-in_err-again
returns-in_err-again c = λ a t p h.
    differ
    (sym
    (ap (λ (x : ReplayAnswer). x.refused)
    (on_slice _ _ _ _ _ _ _ _ _ c.in_ok-v.ensures.answer c.in_ok-v.ensures.guarantee c.in_ok-o.ensures.marking c.in_err-again.ensures.answer c.in_err-again.ensures.marking a t p h).fired))

pub returns : goal.returns
returns c = on_slice _ _ _ _ _ _ _ _ _ c.in_ok-v.ensures.answer c.in_ok-v.ensures.guarantee c.in_ok-o.ensures.marking c.in_ok-again.ensures.answer c.in_ok-again.ensures.marking
