use Prim.Native.Nat.{◌-◌, ◌*◌}
use Rattle.net.specs.Numbers.{selected}
use Rattle.sets.specs.Member.{member}
use Rattle.tables.proofs.Storing.{Storing}
use Rattle.slice_members.proofs.members.Given as goal

abbrev pub invariant-loop-i : goal.invariant-loop-i
invariant-loop-i l = Storing l.initial.list 0 (selected (member l.words) 0 (l.count * 64)) l.list l.n (selected (member l.words) (l.i * 64) (l.count * 64 - l.i * 64))
