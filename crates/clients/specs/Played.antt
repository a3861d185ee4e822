-- What a list that is replayed on a slice answers, in the numbers of a replay.
use Rattle.std.specs.Prelude.{true, false, Result, Ok, Err}
use Rattle.refusals.specs.Numbers.{number}
use Rattle.promise.specs.Firing.{ReplayAnswer}
use Rattle.replay.specs.declared.Outcome.{Outcome}
use Rattle.replay.specs.Told.{ended_numbers}
use Rattle.checker.specs.Answer.{verdict_numbers}
use Rattle.clients.specs.declared.lists.Unplayed.{Unplayed}
use Rattle.clients.specs.declared.lists.Unplayed.TheVariants.{Refused, Broken}

-- the replay's, or why there is none: a refusal, or the rule that the slice breaks
abbrev pub played : Result Outcome Unplayed → ReplayAnswer
played (Ok o) = ended_numbers o
played (Err (Refused e)) = record { refused = true; refusal = number e; stuck = false; full = false; index = 0; place = 0; amount = 0 }
played (Err (Broken v)) = record { refused = true; refusal = (verdict_numbers v).code; stuck = false; full = false; index = 0; place = 0; amount = 0 }
