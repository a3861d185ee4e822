use Rattle.std.proofs.Common.{◌≡◌, ◌-◌, ◌≤◌}
use Rattle.replay_fast.specs.Moves.{repeats_to}
use Rattle.replay_fast.proofs.repeats.Given as goal

abbrev pub invariant-loop-j : goal.invariant-loop-j
invariant-loop-j l = (l.j - 1 ≤ l.count - 1) × (l.n ≤ l.j - 1) × (l.n ≡ repeats_to l.places (l.j - 1))
