use native.Mathlib.Omega.{arith}
use Rattle.file_words.specs.Word.{Bytes}
use Rattle.clients.proofs.Roomy.{run-roomy}
use Rattle.clients.proofs.rooms.run_cut.Goals as goal

pub returns : goal.returns
unfolding Bytes
returns c =
    let called = c in
    run-roomy _ (λ i. omega (arith, called.type_inv.plan i)) _ _ _ _ called.run_cut.ensures.answer
