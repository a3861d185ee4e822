use mathlib.Core.Path.{sym, ap, ◌∙◌}
use native.Mathlib.Omega.{arith}
use Rattle.net.specs.Net.{Net}
use Rattle.net.specs.Checker.{verdict}
use Rattle.file.specs.Layout.{slice_from}
use Rattle.promise.specs.Calls.{told}
use Rattle.inputs_starts.proofs.Calls.{entries, started-at}
use Rattle.starting.proofs.verdicts.judge.Goals as goal

pub whole_outcome-found-requires-clause-start_len : goal.whole_outcome-found-requires-clause-start_len
whole_outcome-found-requires-clause-start_len c = entries c.requires.startable

pub returns : goal.returns
returns c =
    let a = c.args in
    c.whole_outcome-found.ensures
    ∙ ap (λ (N : Net). told (verdict N (slice_from a.slice.now a.s) a.criterion.now)) (sym (started-at c.requires.startable (λ i. omega (arith, c.type_inv.plan i))))
