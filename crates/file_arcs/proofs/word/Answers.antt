use Rattle.std.proofs.Common.{arith}
use Rattle.file_arcs.proofs.Words.{arc-word}
use Rattle.file_arcs.proofs.word.Goals as goal

pub returns : goal.returns
returns c =
    arc-word c.args.file.now _ _ (λ i. omega (arith, c.type_inv.file i))
    (rw (c.get32.ensures.0, c.get32-2.ensures.0))
