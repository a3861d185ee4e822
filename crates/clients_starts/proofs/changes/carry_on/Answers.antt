use mathlib.Core.Path.{refl, sym, ◌∙◌}
use native.Mathlib.Omega.{arith}
use Rattle.refusals.proofs.Numbers.{number_some, passed_on}
use Rattle.clients_starts.proofs.Carrying.{continues}
use Rattle.clients_starts.proofs.changes.carry_on.Goals as goal

pub returns-in_err-transfer : goal.returns-in_err-transfer
returns-in_err-transfer c =
    let e = c.in_err-transfer.ensures.answer in
    rw (passed_on _ c.from_residual.ensures.1) (record { refused = λ _. e; continues = λ none long. absurd (number_some _ (e ∙ none)) })

pub returns : goal.returns
returns c =
    let s = c.args in
    let a = c.in_ok-transfer.ensures in
    record { refused = λ some. absurd (some (sym a.answer)); continues = λ none long. continues s.old.now s.new.now s.running.now s.table.now s.start.now none long s.list.now s.marking.now (λ i. omega (arith, c.type_inv.new i)) a.marking (a.carried refl) c.replay_from.ensures.answer c.replay_from.ensures.marking }
