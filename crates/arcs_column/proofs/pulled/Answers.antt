use Prim.Native.Nat.{ℕ, ◌+◌, ◌*◌, ◌<◌}
use mathlib.Core.Path.{◌≡◌, ap, subst}
use native.Mathlib.Omega.{arith}
use lib.ListN.{length}
use Rattle.file_arcs.specs.Layout.{arc_at}
use Rattle.net.specs.declared.Arc.{Arc}
use Rattle.arcs_column.proofs.Looking.{Looked, looked_none, looked_more, looked_end}
use Rattle.arcs_column.proofs.pulled.Goals as goal
use Rattle.arcs_column.proofs.pulled.Goals.{After-arc-a}

place_is : (c : After-arc-a) → c.arc-a.result.place ≡ (arc_at c.args.file.now (c.args.start + 8 * c.loop-j.j)).place
place_is c = ap (λ (a : Arc). a.place) c.arc-a.ensures.0

inside : (c : After-arc-a) → c.arc-a.result.place < length c.args.column.now
inside c = omega (arith, place_is c, c.requires.run.places c.loop-j.j c.loop-j-test.true)

pub loop-j-init : goal.loop-j-init
loop-j-init c = looked_none _ _ _ _ _

pub loop-j-preserved : goal.loop-j-preserved
loop-j-preserved c =
    looked_more c.args.file.now _ _ c.args.limit.now _ _ _ _ c.loop-j.invariant c.loop-j.auto.j _ (place_is (goal.at.loop-j-preserved c).After-arc-a) (inside (goal.at.loop-j-preserved c).After-arc-a) _ c.pulling-here.ensures

pub returns : goal.returns
returns c =
    let all : c.loop-j.j ≡ c.args.to = omega (arith, c.requires.run.rising, c.loop-j-test.false, c.loop-j.auto.j-end) in
    let ended = subst (λ (n : ℕ). Looked c.args.file.now c.args.start c.args.from c.args.limit.now c.args.column.now n c.loop-j.column c.loop-j.found) all c.loop-j.invariant in
    record { value = ended.answer; rested = looked_end _ _ _ c.args.limit.now _ _ _ _ ended }
