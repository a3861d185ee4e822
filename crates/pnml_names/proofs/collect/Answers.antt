use native.Mathlib.Omega.{arith}
use Prim.Native.Nat.{◌+◌, ◌-◌}
use mathlib.Core.Path.{refl, sym}
use mathlib.Core.List.{[], append-nil}
use lib.ListN.{take}
use Rattle.pnml_names.proofs.Filling as filling
use Rattle.pnml_names.proofs.collect.Goals as goal

pub loop-init : goal.loop-init
loop-init c = record { found = []; taken = sym (append-nil (take c.args.k c.args.table.now)); so = refl; count = omega arith; room = refl; fits = c.requires.at_in_bounds }

pub returns-in_default : goal.returns-in_default
returns-in_default c = let inv = c.loop.invariant in record { found = inv.found; taken = inv.taken; entries = filling.collected_stop inv (4370 - (c.loop.counter + 1)) (omega arith) c.in_default.ensures; count = inv.count; room = inv.room }

pub keep-n-requires : goal.keep-n-requires
keep-n-requires c = λ t. (
  filling.room_for c.loop.invariant c.in-Some.found c.spaces-a.result (4370 - (c.loop.counter + 1)) (omega arith) c.in-Some.ensures c.spaces-a.ensures c.wanted.ensures t,
  (let e = c.in-Some.ensures in omega (arith, c.name_of.ensures, e.0.within e.1, c.requires.text_len_bound)),
)

pub loop-preserved : goal.loop-preserved
loop-preserved c = filling.collected_on c.loop.invariant c.in-Some.found c.spaces-a.result (4370 - (c.loop.counter + 1)) (omega arith) c.in-Some.ensures c.spaces-a.ensures c.name_of.ensures c.wanted.ensures c.keep-n.ensures

pub returns : goal.returns
returns c = let inv = c.loop.invariant in record { found = inv.found; taken = inv.taken; entries = filling.collected_end inv (omega arith); count = inv.count; room = inv.room }
