use Rattle.arcs_starts.specs.Table.{Past}
use Rattle.arcs_starts.proofs.next_from.Given as goal

abbrev pub invariant-loop-low : goal.invariant-loop-low
invariant-loop-low l = Past l.file l.start l.low l.k
