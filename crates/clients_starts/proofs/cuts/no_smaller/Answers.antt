use Rattle.promise.proofs.Replays.{differ}
use Rattle.clients_starts.proofs.Accepting.{compared}
use Rattle.clients_starts.proofs.cuts.no_smaller.Goals as goal

pub returns-in_default : goal.returns-in_default
returns-in_default c = λ yes. differ yes

pub returns : goal.returns
returns c =
    let s = c.args in
    λ yes. compared s.plan.now s.start.now s.criterion.now c.in-Ok.is c.code.ensures s.other.now s.buffer.now c.safety_from-done.ensures.answer c.safety_from-done.ensures.smallest c.check_from-verdict.ensures.answer c.check_from-verdict.ensures.guarantee yes
