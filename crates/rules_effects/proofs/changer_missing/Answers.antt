use Prim.Native.Nat.{ℕ, ◌<◌}
use mathlib.Core.Path.{◌≡◌, ap, ◌∙◌}
use native.Mathlib.Omega.{arith}
use lib.ListN.{length, get_or, get_or-replicate}
use Rattle.net.specs.Numbers.{among}
use Rattle.rules_effects.specs.Movers.{limit_on}
use Rattle.rules_effects.proofs.Limits.{criterion_fits, first-changer}
use Rattle.rules_effects.proofs.changer_missing.Goals as goal

pub limit_criterion-requires : goal.limit_criterion-requires
limit_criterion-requires c = criterion_fits _ _ c.requires.criterion_value _ (omega (arith, c.requires.resting.reached, c.requires.limit_len, c.fill.ensures.len))

pub returns-clause-value : goal.returns-clause-value
returns-clause-value c =
    let Q = c.args.criterion.now in
    let in-limit : (p : ℕ) → p < c.args.hp.places → p < length c.args.limit.now = λ p l. omega (arith, c.requires.resting.reached, c.requires.limit_len) in
    let filled : (p : ℕ) → p < length c.args.limit.now → get_or c.fill.new.self p 0 ≡ 4294967295 = λ p l. rw (c.fill.ensures.after (λ y h. h)) (get_or-replicate _ _ _ _ l) in
    first-changer _ _ _ _ _ _ _ c.requires.cases (λ i. omega (arith, c.type_inv.plan i)) _ Q c.requires.criterion_value
    (λ p l. c.limit_criterion.ensures p (omega (arith, in-limit p l, c.fill.ensures.len)) ∙ ap (limit_on (among p Q) 0) (filled p (in-limit p l)))
    _ c.first_mover.ensures.value
