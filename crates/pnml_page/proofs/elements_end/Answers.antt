use Rattle.std.proofs.Common.{sym, ap, ◌∙◌, ◌-◌, ◌+◌, arith}
use Rattle.pnml_page.specs.Steps
use Rattle.pnml_page.proofs.Tags as tags
use Rattle.pnml_text.specs.Rest.{rest_at}
use Rattle.pnml_page.proofs.elements_end.Goals as goal

pub returns-in_default : goal.returns-in_default
returns-in_default c = sym (ap (λ (y : Steps.Content). y.rest) (tags.content-stop c.args.text.now (4370 - c.loop.counter) (4370 - (c.loop.counter + 1)) c.loop.a (omega arith) c.in_default.ensures)) ∙ c.loop.invariant

pub loop-preserved : goal.loop-preserved
loop-preserved c = sym (ap (λ (y : Steps.Content). y.rest) (tags.content-on c.args.text.now (4370 - c.loop.counter) (4370 - (c.loop.counter + 1)) c.loop.a c.in-Some.found c.spaces-a.result (omega arith) c.in-Some.ensures c.spaces-a.ensures)) ∙ c.loop.invariant

pub returns : goal.returns
returns c = sym (ap (λ (y : Steps.Content). y.rest) (tags.content-end (4370 - c.loop.counter) (rest_at c.args.text.now c.loop.a) (omega arith))) ∙ c.loop.invariant
