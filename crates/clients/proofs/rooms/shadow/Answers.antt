use native.Mathlib.Omega.{arith}
use Rattle.file_words.specs.Word.{Bytes}
use Rattle.clients.proofs.Roomy.{shadow_roomy}
use Rattle.clients.proofs.rooms.shadow.Goals as goal

pub returns : goal.returns
unfolding Bytes
returns c =
    let called = c in
    shadow_roomy _ (λ i. omega (arith, called.type_inv.plan i)) _ _ _ _ called.shadow.ensures.answer
