use Rattle.std.proofs.Common.{◌≡◌, take}
use Rattle.file.specs.Layout.{words_from}
use Rattle.inputs_criterion.proofs.decode.Given as goal

abbrev pub invariant-loop-i : goal.invariant-loop-i
invariant-loop-i l = take l.i l.list ≡ words_from l.q 0 l.i
