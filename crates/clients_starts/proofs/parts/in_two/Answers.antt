use mathlib.Core.Bool.{false}
use mathlib.Core.Path.{refl, sym, ◌∙◌}
use native.Mathlib.Omega.{arith}
use Rattle.refusals.proofs.Numbers.{passed_on}
use Rattle.promise.proofs.Replays.{differ}
use Rattle.clients_starts.proofs.Halves.{two_parts, stopped, went_on}
use Rattle.clients_starts.proofs.parts.in_two.Goals as goal

pub returns-in_err-begun : goal.returns-in_err-begun
returns-in_err-begun c =
    let a = c.in_err-begun.ensures in
    rw (passed_on _ c.from_residual.ensures.1) (record { stopped = λ _. a.answer; whole = λ all fits few. stopped false refl refl a.answer all })

pub returns-then-not-fired : goal.returns-then-not-fired
returns-then-not-fired c =
    let a = c.in_ok-begun.ensures in
    record { stopped = λ _. a.answer; whole = λ all fits few. stopped _ c.if-not-fired.true-raw c.fired.ensures a.answer all }

pub returns : goal.returns
returns c =
    let s = c.args in
    let a = c.in_ok-begun.ensures in
    let all = went_on _ c.if-not-fired.false-raw c.fired.ensures a.answer in
    record { stopped = λ not-all. differ (sym not-all ∙ all); whole = λ yes fits few. two_parts s.file.now s.first.now s.second.now s.middle.now s.marking.now (λ i. omega (arith, c.type_inv.file i)) yes a.marking fits few c.replay_from.ensures.answer c.replay_from.ensures.marking }
