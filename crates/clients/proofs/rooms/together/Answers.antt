use native.Mathlib.Omega.{arith}
use Rattle.file_words.specs.Word.{Bytes}
use Rattle.clients.proofs.Roomy.{together-roomy}
use Rattle.clients.proofs.rooms.together.Goals as goal

pub returns : goal.returns
unfolding Bytes
returns c =
    let called = c in
    together-roomy _ (λ i. omega (arith, called.type_inv.plan i)) _ _ _ called.together.ensures.answer
