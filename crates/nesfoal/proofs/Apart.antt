-- No two answers of a call have the same numbers.
use Rattle.nesfoal.specs.Answers.{Pinned}
use Rattle.checker.proofs.Apart.{told-apart as verdicts}
use Rattle.replay.proofs.Apart.{told-apart as outcomes}
use Rattle.shadow.proofs.Apart.{told-apart as shadows}
use Rattle.together.proofs.Apart.{told-apart as takings}
use Rattle.range.proofs.Apart.{told-apart as ranges}
use Rattle.slice.proofs.Apart.{told-apart as cuts}
use Rattle.run_cut.proofs.Apart.{told-apart as run-cuts}
use Rattle.plan_put.proofs.Apart.{told-apart as files}
use Rattle.call_firing.proofs.Apart.{told-apart as changes}

pub pinned : Pinned
pinned = record { check = verdicts; replay = outcomes; shadow = shadows; safety_and_branching = cuts; run_cut_row = run-cuts; effect = changes; together = takings; range = ranges; normal = files }
