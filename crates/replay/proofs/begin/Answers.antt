use mathlib.Core.Path.{◌∙◌, ap, subst⁻¹}
use native.Mathlib.Omega.{arith}
use lib.ListN.{length}
use Rattle.file_words.specs.Word.{Bytes}
use Rattle.replay_steps.specs.Steps.{Listed}
use Rattle.replay.proofs.Underway.{underway_from}
use Rattle.replay.proofs.Loading.{begun-long, listed}
use Rattle.replay.proofs.begin.Goals as goal

-- the marking is the initial one
pub small-requires : goal.small-requires
unfolding Bytes
small-requires c =
    let load = c in
    let known = load in
    let s = known in
    let file = s.args.file.now in
    let bytes : Bytes file = λ i. omega (arith, known.type_inv.file i) in
    let is = load.load.ensures in
    record { sound = s.requires.sound; marking_len = ap length is ∙ begun-long file s.args.h; listed = subst⁻¹ (Listed file s.args.h s.args.list.now) is (listed file s.args.h s.requires bytes) }

pub returns : goal.returns
returns c =
    let small = c in
    let load = small in
    underway_from load.load.ensures small.small.ensures
