use mathlib.Core.Path.{◌≡◌, sym, ◌∙◌}
use native.Mathlib.Omega.{arith}
use mathlib.Core.Bool.{false}
use Rattle.range.specs.Told.{range_numbers}
use Rattle.clients_range.proofs.Concluded.{goes_on, as_many, as_long, by_the_need}
use Rattle.clients_range.proofs.enough.Goals as goal
use Rattle.clients_range.proofs.enough.Goals.{Else-is_err}

-- the call is not refused
goes : (c : Else-is_err) → (range_numbers c.range-a.result).refused ≡ false
goes c = goes_on _ (sym c.is_err.ensures.value ∙ c.if-is_err.false)

pub returns-then-tokens-upper : goal.returns-then-tokens-upper
returns-then-tokens-upper c = λ z l. absurd (c.if-tokens-upper.true (l ∙ sym (as_many _ _ _ _ c.range-a.ensures.answer (goes (goal.at.returns-then-tokens-upper c).Else-is_err))))

pub has_all-requires : goal.has_all-requires
has_all-requires c =
    let on = goes (goal.at.has_all-requires c).Else-is_err in
    let many = as_many _ _ _ _ c.range-a.ensures.answer on in
    (many, omega (arith, many, as_long _ _ _ _ c.range-a.ensures.answer on c.range-a.ensures.need), omega (arith, c.if-tokens-upper.false))

pub returns : goal.returns
returns c = λ z l. by_the_need _ _ _ _ c.range-a.ensures.answer (goes (goal.at.returns c).Else-is_err) c.range-a.ensures.range c.args.tokens.now c.has_all.ensures
