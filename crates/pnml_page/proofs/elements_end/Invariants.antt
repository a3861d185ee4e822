use Rattle.std.proofs.Common.{◌≡◌, ◌-◌}
use Rattle.pnml_page.specs.Steps
use Rattle.pnml_text.specs.Rest.{rest_at}
use Rattle.pnml_page.proofs.elements_end.Given as goal

abbrev pub invariant-loop : goal.invariant-loop
invariant-loop l = (Steps.content (4370 - l.counter) (rest_at l.text l.a)).rest ≡ (Steps.content 4370 (rest_at l.text l.at)).rest
