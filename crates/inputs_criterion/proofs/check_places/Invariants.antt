use Rattle.std.proofs.Common.{◌≡◌, ◌-◌, ◌*◌}
use Rattle.file.specs.Layout.{words_from}
use Rattle.file.specs.Criterion.{places_refusal}
use Rattle.inputs_criterion.proofs.check_places.Given as goal

abbrev pub invariant-loop-i : goal.invariant-loop-i
invariant-loop-i l =
    places_refusal l.places 0 (words_from l.q 0 l.count) ≡ places_refusal l.places l.least (words_from l.q (2 * l.i) (l.count - l.i))
