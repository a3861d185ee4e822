use Rattle.std.proofs.Common.{◌-◌}
use Rattle.pnml_text.specs.Rest.{rest_at}
use Rattle.pnml_page.specs.Steps
use Rattle.pnml_names.specs.Names.{entries_of}
use Rattle.pnml_names.proofs.Filling as filling
use Rattle.pnml_names.proofs.collect.Given as goal

abbrev pub invariant-loop : goal.invariant-loop
invariant-loop l = filling.Collecting l.text l.which l.initial.table l.k (entries_of l.which (Steps.content 4370 (rest_at l.text l.at)).elements) l.table l.a l.n (4370 - l.counter)
