use mir.Syntax.{w32}
use mathlib.Core.Path.{◌∙◌}
use mir.Facts.{to_z-of_z}
use Rattle.file_header.specs.declared.Due.TheVariants.{Either}
use Rattle.file.proofs.Opening.{opened_ok, turned_back_lem}
use Rattle.call_firing.proofs.Changes.{effect_file, effect-10, effect-12, effect-by}
use Rattle.call_firing.proofs.effects.effect.Goals as goal

pub returns-in_default : goal.returns-in_default
returns-in_default c = effect_file _ _ _ _ (turned_back_lem Either _ c.read-read.ensures c.unwrap_err.ensures).0

pub returns-then-h-p : goal.returns-then-h-p
returns-then-h-p c = effect-10 _ _ (opened_ok Either _ c.in-Ok.ensures) _ _ c.if-h-p.true

pub returns-then-h-t : goal.returns-then-h-t
returns-then-h-t c = effect-12 _ _ (opened_ok Either _ c.in-Ok.ensures) _ _ c.if-h-p.false c.if-h-t.true

pub effect-by-requires : goal.effect-by-requires
effect-by-requires c = ((opened_ok Either _ c.in-Ok.ensures).good, c.if-h-t.false)

pub returns : goal.returns
returns c = effect-by _ _ (opened_ok Either _ c.in-Ok.ensures) _ _ _ c.if-h-p.false c.if-h-t.false (to_z-of_z {w = w32} (record { sfits = c.effect-by.type_inv }) ∙ c.effect-by.ensures)
