use native.Mathlib.Omega.{arith}
use Rattle.arcs_starts.proofs.Reached.{ordered}
use Rattle.arcs_starts.proofs.Splits.{past_by}
use Rattle.arcs_effect.proofs.Parts.{part-unknown, part_none, part-some}
use Rattle.arcs_effect.proofs.run_part.Goals as goal

pub returns-then-h-transition : goal.returns-then-h-transition
returns-then-h-transition c = part-unknown _ _ c.requires _ c.if-h-transition.true

pub first_from-a-requires : goal.first_from-a-requires
first_from-a-requires c = ordered _ _ c.requires

pub next_from-e-requires : goal.next_from-e-requires
next_from-e-requires c = let a = c.first_from-a.ensures in (ordered _ _ c.requires, a.within, past_by a (omega arith))

pub returns-then-e-a : goal.returns-then-e-a
returns-then-e-a c = part_none _ _ c.requires _ _ _ c.if-h-transition.false c.first_from-a.ensures c.next_from-e.ensures c.if-e-a.true

pub returns : goal.returns
returns c = part-some _ _ c.requires _ _ _ c.if-h-transition.false c.first_from-a.ensures c.next_from-e.ensures c.if-e-a.false
