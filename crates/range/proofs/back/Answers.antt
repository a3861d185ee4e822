use mathlib.Core.Path.{refl, sym, subst, ◌∙◌}
use native.Mathlib.Omega.{arith}
use Prim.Native.Nat.{ℕ}
use lib.ListN.{length}
use Rattle.file.specs.Layout.{net_from}
use Rattle.replay_steps.specs.Steps.{held, Holds}
use Rattle.range.specs.Need.{wanted}
use Rattle.range.proofs.Need.{low, need-end, need-step}
use Rattle.range.proofs.back.Goals as goal

-- The entries are what the firings from k on need.

pub loop-k-init : goal.loop-k-init
loop-k-init c =
    (refl, λ p. c.requires.by_index p ∙ sym (need-end (net_from c.args.file.now c.args.h) c.args.list.now (length c.args.list.now) (omega arith) p))

pub step_back-requires-clause-by_index : goal.step_back-requires-clause-by_index
step_back-requires-clause-by_index c = low c.requires.ready c.args.list.now c.requires.known c.loop-k.k c.loop-k.need c.loop-k.invariant.1

pub loop-k-preserved : goal.loop-k-preserved
loop-k-preserved c =
    let N = net_from c.args.file.now c.args.h in (
      c.step_back.ensures.long ∙ c.loop-k.invariant.0,
      need-step N c.args.list.now refl (omega (arith, c.loop-k-test.true)) c.loop-k.auto.k c.loop-k.need _ c.loop-k.invariant.1
          (subst (λ (t : ℕ). Holds c.loop-k.need c.step_back.new.need (wanted N t (held c.loop-k.need))) c.from.ensures c.step_back.ensures),
    )
