use native.Mathlib.Omega.{arith}
use Rattle.file_words.specs.Word.{Bytes}
use Rattle.clients.proofs.Roomy.{safety-roomy}
use Rattle.clients.proofs.rooms.safety.Goals as goal

pub returns : goal.returns
unfolding Bytes
returns c =
    let called = c in
    safety-roomy _ (λ i. omega (arith, called.type_inv.plan i)) _ _ called.safety.ensures.answer
