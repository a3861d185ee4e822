use Rattle.std.proofs.Common.{◌≡◌, leb, take}
use Rattle.net.specs.Numbers.{any}
use Rattle.inputs_lists.proofs.above.Given as goal

abbrev pub invariant-loop-x : goal.invariant-loop-x
invariant-loop-x l = l.bad ≡ any (leb l.limit) (take l.x-index l.list)
