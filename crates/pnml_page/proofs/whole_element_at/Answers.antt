use Rattle.pnml_page.proofs.Tags as tags
use Rattle.pnml_page.proofs.whole_element_at.Goals as goal

pub returns-then-text-found : goal.returns-then-text-found
returns-then-text-found c = tags.element-none c.args.text.now c.element_at-found.result _ c.element_at-found.ensures c.if-text-found.true
