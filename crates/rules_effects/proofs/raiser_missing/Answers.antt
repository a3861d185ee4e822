use native.Mathlib.Omega.{arith}
use Rattle.rules_effects.proofs.Limits.{first-raiser}
use Rattle.rules_effects.proofs.raiser_missing.Goals as goal

pub returns-clause-value : goal.returns-clause-value
returns-clause-value c = first-raiser _ _ _ _ _ _ _ c.requires.cases (λ i. omega (arith, c.type_inv.plan i)) _ c.limit_kept.ensures _ c.first_mover.ensures.value
