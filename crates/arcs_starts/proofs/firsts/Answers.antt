use Prim.Native.Nat.{◌+◌, ◌*◌, ◌<◌}
use mathlib.Core.Path.{◌≡◌, ap}
use native.Mathlib.Omega.{arith}
use lib.ListN.{length}
use Rattle.net.specs.declared.Arc.{Arc}
use Rattle.file_arcs.specs.Layout.{arc_at}
use Rattle.arcs_starts.specs.Table.{slot_at}
use Rattle.arcs_starts.proofs.Filling.{firsts_more, firsts_end}
use Rattle.arcs_starts.proofs.firsts.Goals as goal
use Rattle.arcs_starts.proofs.firsts.Goals.{After-arc-a}

-- the arc's transition
is_owner : (c : After-arc-a) → c.arc-a.result.transition ≡ (arc_at c.args.file.now (c.args.start + 8 * c.loop-j.j)).transition
is_owner c = ap (λ (a : Arc). a.transition) c.arc-a.ensures.0

-- it is one of the table's
owner_known : (c : After-arc-a) → (c.arc-a.result.transition < c.args.transitions) × (c.args.transitions < length c.args.table.now)
unfolding slot_at
owner_known c = (omega (arith, is_owner c, c.requires.tabled.slots c.loop-j.j c.loop-j-test.true), omega (arith, c.requires.tabled.long))

pub put_up-next-requires : goal.put_up-next-requires
put_up-next-requires c =
    let known = owner_known (goal.at.put_up-next-requires c).After-arc-a in
    omega (arith, known.0, known.1)

pub loop-j-preserved : goal.loop-j-preserved
loop-j-preserved c =
    let arc = (goal.at.loop-j-preserved c).After-arc-a in
    let pre = c.requires in
    let up = c.put_up-next.ensures in
    (up.to _ c.loop-j.invariant.0 (owner_known arc).0, firsts_more pre.tabled pre.by_index c.loop-j.invariant.1 c.loop-j-test.true (is_owner arc) up)

pub returns : goal.returns
returns c =
    let pre = c.requires in
    let up = c.put_up.ensures in
    (omega (arith, up.long), firsts_end pre.tabled pre.by_index c.loop-j.invariant.1 (omega (arith, c.loop-j-test.false)) up)
