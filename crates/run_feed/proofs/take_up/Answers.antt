use native.Mathlib.Omega.{arith}
use mathlib.Core.Path.{sym, subst}
use Prim.Native.Nat.{ℕ, ◌<◌}
use lib.ListN.{get_or}
use Rattle.run_feed.proofs.Stepping.{taken_up}
use Rattle.run_feed.proofs.take_up.Goals as goal

pub returns : goal.returns
returns c =
    taken_up _ c.args.h c.requires.sound.0 _ c.requires.sound.2 _ _ _ _ _ _ _ c.requires.back _ c.from-t.ensures
    (subst (λ (n : ℕ). 0 < get_or c.args.first.now n 0) (sym c.from-t.ensures) c.requires.waiting.2) (omega (arith, c.from-t.ensures, c.requires.waiting.1))
    _ c.once.ensures _ _ _ c.insert.ensures c.enter_inputs.ensures
