use native.Mathlib.Omega.{arith}
use lib.ListN.{get_or}
use Rattle.net.proofs.Numbers.{among-at}
use Rattle.run_feed.proofs.Raising.{criterion_none, criterion_more}
use Rattle.run_feed.proofs.enter_criterion.Goals as goal

pub loop-q-init : goal.loop-q-init
loop-q-init c = criterion_none _ c.args.h _ c.args.criterion.now _ _ c.requires.sound.2

pub enter-requires : goal.enter-requires
enter-requires c =
    let Q = c.args.criterion.now in (
      c.requires.sound.0,
      c.requires.sound.1,
      omega (arith, c.from.ensures, c.requires.known (get_or Q c.loop-q.q-index 0) (among-at Q c.loop-q.q-index c.loop-q-test.true)),
      c.loop-q.invariant.places_long,
      c.requires.sound.3,
      omega (arith, c.requires.sound.4, c.loop-q.invariant.first_long),
    )

pub loop-q-preserved : goal.loop-q-preserved
loop-q-preserved c = criterion_more _ c.args.h _ _ _ _ _ _ _ c.loop-q.invariant _ _ _ c.loop-q-test.true c.from.ensures c.enter.ensures
