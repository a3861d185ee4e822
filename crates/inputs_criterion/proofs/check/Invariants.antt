use Rattle.std.proofs.Common.{◌≡◌, ◌≤◌, drop}
use Rattle.file.specs.Criterion.{places_refusal}
use Rattle.inputs_criterion.proofs.check.Given as goal

abbrev pub invariant-loop-next : goal.invariant-loop-next
invariant-loop-next l =
    (l.least ≤ 65536) × (places_refusal l.places 0 l.q ≡ places_refusal l.places l.least (drop l.next-index l.q))
