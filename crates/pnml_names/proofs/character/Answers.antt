use Rattle.std.proofs.Common.{sym, ap, ◌∙◌}
use Rattle.pnml_text.specs.Characters.{goes_on}
use Rattle.pnml_text.specs.declared.Run.TheVariants.{Id}
use Rattle.pnml_names.proofs.Ids as ids
use Rattle.pnml_names.proofs.character.Goals as goal

pub returns-then-text-at : goal.returns-then-text-at
returns-then-text-at c = ids.character_past c.args.text.now c.args.at c.if-text-at.true

pub returns-then-goes_on : goal.returns-then-goes_on
returns-then-goes_on c = ids.character_in c.args.text.now c.args.at c.if-text-at.false (sym (c.goes_on.ensures ∙ ap (goes_on Id) c.classify.ensures) ∙ c.if-goes_on.true)

pub returns : goal.returns
returns c = ids.character_not c.args.text.now c.args.at c.if-text-at.false (sym (c.goes_on.ensures ∙ ap (goes_on Id) c.classify.ensures) ∙ c.if-goes_on.false)
