use mathlib.Core.Path.{◌∙◌, ap}
use Rattle.nesfoal.specs.Ranges.{range_code}
use Rattle.nesfoal.proofs.AsRead.{range_for_c}
use Rattle.nesfoal.proofs.ranges.nesfoal_range.Goals as goal

pub returns : goal.returns
returns c =
    let e = c.range-a.ensures in
    let r = c.code.ensures ∙ ap range_code e.answer in
    record { answer = r; need = e.need; range = range_for_c _ _ _ _ r e.need }
