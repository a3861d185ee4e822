-- The answers of the public calls: an equation of numbers in a contract is one of answers.
use Rattle.checker.specs.Answer.{ToldApart as Verdicts}
use Rattle.replay.specs.Told.{ToldApart as Outcomes}
use Rattle.shadow.specs.Told.{ToldApart as Shadows}
use Rattle.together.specs.Told.{ToldApart as Takings}
use Rattle.range.specs.Told.{ToldApart as Ranges}
use Rattle.slice.specs.Kept.{ToldApart as Cuts}
use Rattle.run_cut.specs.Told.{ToldApart as RunCuts}
use Rattle.plan_put.specs.Told.{ToldApart as Files}
use Rattle.call_firing.specs.Effect.{ToldApart as Changes}

-- no two answers of a call have the same numbers
pub record Pinned : Type 0 where
  pub check : Verdicts
  pub replay : Outcomes
  pub shadow : Shadows
  pub safety_and_branching : Cuts
  pub run_cut_row : RunCuts
  pub effect : Changes
  pub together : Takings
  pub range : Ranges
  pub normal : Files
