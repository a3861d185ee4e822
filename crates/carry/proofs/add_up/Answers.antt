use Prim.Native.Nat.{ℕ, ◌+◌}
use mathlib.Core.Path.{ap, ◌∙◌}
use lib.Dec.{eqb}
use lib.ListN.{get_or}
use Rattle.net.specs.Net.{counted}
use Rattle.carry.proofs.Sums.{adding-none, adding-next, adding-above}
use Rattle.carry.proofs.add_up.Goals as goal

pub loop-i-init : goal.loop-i-init
loop-i-init c = adding-none c.requires

pub returns-then-n-gt4294967295 : goal.returns-then-n-gt4294967295
returns-then-n-gt4294967295 c = adding-above c.requires c.loop-i.invariant c.loop-i-test.true c.if-n-gt4294967295.true

pub loop-i-preserved : goal.loop-i-preserved
loop-i-preserved c =
    adding-next c.requires c.loop-i.invariant c.loop-i-test.true c.if-n-gt4294967295.false c.add.ensures.0
    (λ p u. c.add.ensures.1 p u ∙ ap (λ (q : ℕ). get_or c.loop-i.sums p 0 + counted (eqb q p) (get_or c.args.running.now c.loop-i.i 0)) c.wide.ensures.0)
