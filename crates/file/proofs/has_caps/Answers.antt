use native.Mathlib.Omega.{arith}
use mathlib.Core.Path.{sym}
use borrow.Author.Tests.{ne_eqb}
use Rattle.net.proofs.Uncapped.{has_cap, has_none}
use Rattle.file.proofs.Caps.{no_cap_by}
use Rattle.file.proofs.has_caps.Goals as goal

pub returns-then-h-ne-CAPS : goal.returns-then-h-ne-CAPS
returns-then-h-ne-CAPS c =
    sym (has_none _ (λ p l. no_cap_by c.args.file.now c.args.h (ne_eqb _ _ c.if-h-ne-CAPS.true) p))

pub returns-then-cap-ne0 : goal.returns-then-cap-ne0
returns-then-cap-ne0 c =
    sym (has_cap _ c.loop-p.p c.loop-p-test.true (omega (arith, c.cap.ensures.0, c.if-cap-ne0.true)))

pub returns : goal.returns
returns c =
    sym (has_none _ (λ p l. c.loop-p.invariant p (omega (arith, c.loop-p-test.false))))
