use native.Mathlib.Omega.{arith}
use Rattle.file_words.specs.Word.{Bytes}
use Rattle.clients.proofs.Roomy.{branching-roomy}
use Rattle.clients.proofs.rooms.branching.Goals as goal

pub returns : goal.returns
unfolding Bytes
returns c =
    let called = c in
    branching-roomy _ (λ i. omega (arith, called.type_inv.plan i)) _ _ called.branching.ensures.answer
