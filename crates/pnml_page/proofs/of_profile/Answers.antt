use Rattle.pnml_page.specs.Steps
use Rattle.pnml_page.proofs.Tags as tags
use Rattle.pnml_text.proofs.Runs as runs
use Rattle.pnml_text.specs.Rest.{Rest}
use native.Mathlib.Omega.{arith}
use mathlib.Core.Path.{ap, ◌∙◌}
use Rattle.pnml_page.proofs.of_profile.Goals as goal

pub returns : goal.returns
unfolding Steps.read_whole
returns c = tags.nothing_left c.args.text.now c.after-last.result ∙ ap Steps.nothing (c.after-last.ensures ∙ ap Steps.after (c.elements_end-end.ensures ∙ ap (λ (y : Rest). (Steps.content 4370 y).rest) (c.inside-first.ensures ∙ ap Steps.inside (runs.rest_in c.args.text.now 0 (omega arith)))))
