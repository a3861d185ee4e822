use mir.Syntax.{w32}
use mathlib.Core.Path.{◌∙◌}
use mir.Facts.{to_z-of_z}
use native.Mathlib.Omega.{arith}
use Rattle.arcs_starts.proofs.Reached.{ordered}
use Rattle.arcs_starts.proofs.Splits.{past_by}
use Rattle.arcs_effect.proofs.Parts.{inputs_in, outputs_in, effect_is}
use Rattle.arcs_effect.proofs.effect.Goals as goal
use Rattle.arcs_effect.proofs.effect.Goals.{After-next_from-c, Start}

abbrev call : After-next_from-c → Start
call c = (goal.at.After-next_from-c c).Start

pub first_from-a-requires : goal.first_from-a-requires
first_from-a-requires c = ordered _ _ c.requires.0

pub next_from-b-requires : goal.next_from-b-requires
next_from-b-requires c = let a = c.first_from-a.ensures in (ordered _ _ c.requires.0, a.within, past_by a (omega arith))

pub next_from-c-requires : goal.next_from-c-requires
next_from-c-requires c = let b = c.next_from-b.ensures in (ordered _ _ c.requires.0, b.within, past_by b (omega arith))

pub weight-input-requires : goal.weight-input-requires
weight-input-requires c = inputs_in _ _ (call c).requires.0 _ _ _ _ c.first_from-a.ensures c.next_from-b.ensures c.next_from-c.ensures

pub weight-output-requires : goal.weight-output-requires
weight-output-requires c =
    let found = c in
    outputs_in _ _ (call (goal.at.weight-output-requires found).After-next_from-c).requires.0 _ _ _ _ found.first_from-a.ensures found.next_from-b.ensures found.next_from-c.ensures

pub returns : goal.returns
returns c =
    let found = c in
    to_z-of_z {w = w32} (record { sfits = c.difference.type_inv })
    ∙ c.difference.ensures
    ∙ effect_is _ _ (call (goal.at.returns found).After-next_from-c).requires.0 _ _ _ _ found.first_from-a.ensures found.next_from-b.ensures found.next_from-c.ensures _ _ _ c.weight-input.ensures.0 c.weight-output.ensures.0
