use borrow.Author.Tests.{eq-eqb, ne_eqb}
use Rattle.replay.proofs.Loading.{stands_capped, stands_plain, loaded}
use Rattle.replay.proofs.load.Goals as goal

pub returns-then-h-eq-CAPS : goal.returns-then-h-eq-CAPS
returns-then-h-eq-CAPS c =
    loaded _ 8 c.requires.marking_len c.load_each.auto.marking c.load_each.ensures
    (λ p u. stands_capped c.args.file.now c.args.h c.requires.sound.placed p u (eq-eqb _ _ c.if-h-eq-CAPS.true))

pub returns-else-h-eq-CAPS : goal.returns-else-h-eq-CAPS
returns-else-h-eq-CAPS c =
    loaded _ 4 c.requires.marking_len c.load_each-else-h-eq-CAPS.auto.marking c.load_each-else-h-eq-CAPS.ensures
    (λ p u. stands_plain c.args.file.now c.args.h c.requires.sound.placed p u (ne_eqb _ _ c.if-h-eq-CAPS.false))
