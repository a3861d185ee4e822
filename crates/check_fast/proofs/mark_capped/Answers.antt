use borrow.Author.Tests.{ne_eqb}
use Rattle.file.proofs.Caps.{no_cap_by}
use Rattle.check_fast.proofs.Growing.{bound-none}
use Rattle.check_fast.proofs.mark_capped.Goals as goal

pub returns-then-hp-ne-CAPS : goal.returns-then-hp-ne-CAPS
returns-then-hp-ne-CAPS c = bound-none _ _ (no_cap_by c.args.plan.now c.args.hp (ne_eqb _ _ c.if-hp-ne-CAPS.true))
