use native.Mathlib.Omega.{arith}
use Rattle.inputs_starts.proofs.Calls.{entries}
use Rattle.starting.proofs.Within.{within, cut_started}
use Rattle.starting.proofs.cuts.cut.Goals as goal

pub write-requires-clause-start_len : goal.write-requires-clause-start_len
write-requires-clause-start_len c = entries c.requires.startable

pub write-requires-clause-within : goal.write-requires-clause-within
write-requires-clause-within c = within c.args.kind _ _ _ _ c.kept-kept.ensures

pub returns : goal.returns
returns c = cut_started c.args.kind c.kept-kept.result c.requires.startable (λ i. omega (arith, c.type_inv.plan i)) c.kept-kept.ensures c.write.ensures
