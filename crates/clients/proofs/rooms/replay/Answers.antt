use native.Mathlib.Omega.{arith}
use Rattle.file_words.specs.Word.{Bytes}
use Rattle.clients.proofs.Roomy.{replay-roomy}
use Rattle.clients.proofs.rooms.replay.Goals as goal

pub returns : goal.returns
unfolding Bytes
returns c =
    let called = c in
    replay-roomy _ (λ i. omega (arith, called.type_inv.file i)) _ _ called.replay.ensures.answer
