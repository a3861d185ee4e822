use native.Mathlib.Omega.{arith}
use Rattle.rules_effects.proofs.Limits.{first-cap_changer}
use Rattle.rules_effects.proofs.cap_changer_missing.Goals as goal

pub returns-clause-value : goal.returns-clause-value
returns-clause-value c = first-cap_changer _ _ _ _ _ _ _ c.requires.cases (λ i. omega (arith, c.type_inv.plan i)) _ c.limit_capped.ensures _ c.first_mover.ensures.value
