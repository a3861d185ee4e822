use Prim.Native.Nat.{◌<◌}
use mathlib.Core.Path.{ap, ◌∙◌}
use native.Mathlib.Omega.{arith}
use lib.ListN.{length}
use Rattle.arcs_starts.proofs.Reached.{ordered}
use Rattle.arcs_starts.proofs.Splits.{past_by}
use Rattle.together.proofs.Inputs.{takes_from_lem}
use Rattle.together.proofs.Ends.{Found, one_way, no_inputs, most}
use Rattle.together.proofs.largest.Goals as goal
use Rattle.together.proofs.largest.Goals.{After-next_from-to, Else-to-from}

-- ---- the arcs are found, then the marking copied

found : (c : After-next_from-to) → Found c.args.file.now c.args.h c.args.transition c.first_from-from.result c.next_from-to.result
found c = record { sound = c.requires.sound; first = c.first_from-from.ensures; last = c.next_from-to.ensures }

some : (c : Else-to-from) → c.first_from-from.result < c.next_from-to.result
some c = omega (arith, c.if-to-from.false)

pub first_from-from-requires : goal.first_from-from-requires
first_from-from-requires c = ordered _ _ c.requires.sound

pub next_from-to-requires : goal.next_from-to-requires
next_from-to-requires c = let a = c.first_from-from.ensures in (ordered _ _ c.requires.sound, a.within, past_by a (omega arith))

pub returns-then-to-from : goal.returns-then-to-from
returns-then-to-from c =
    let x = no_inputs (found (goal.at.returns-then-to-from c).After-next_from-to) _ c.requires.entries c.if-to-from.true in
    record { result_value = x.0; rest_after = c.copy.ensures ∙ x.1 }

pub fewest-k-requires-clause-one_way : goal.fewest-k-requires-clause-one_way
fewest-k-requires-clause-one_way c = one_way (found (goal.at.fewest-k-requires-clause-one_way c).After-next_from-to) c.args.marking.now c.requires.entries (some (goal.at.fewest-k-requires-clause-one_way c).Else-to-from)

pub take-requires-clause-run : goal.take-requires-clause-run
take-requires-clause-run c =
    (one_way (found (goal.at.take-requires-clause-run c).After-next_from-to) c.copy.new.to (ap length c.copy.ensures ∙ c.requires.entries) (some (goal.at.take-requires-clause-run c).Else-to-from)).run

pub returns : goal.returns
returns c =
    let told = most (found (goal.at.returns c).After-next_from-to) _ c.requires.entries c.fewest-k.ensures (takes_from_lem c.copy.ensures c.take.ensures) in
    record { result_value = told.0; rest_after = told.1 }
