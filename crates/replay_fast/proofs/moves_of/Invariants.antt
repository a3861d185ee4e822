use Rattle.std.proofs.Common.{◌≡◌, ℕ, ◌<◌, get_or}
use Rattle.arcs_column.specs.Ways.{place_at}
use Rattle.replay_fast.specs.Moves.{change_at}
use Rattle.replay_fast.proofs.moves_of.Given as goal

abbrev pub invariant-loop-j : goal.invariant-loop-j
invariant-loop-j l = ((i : ℕ) → i < l.j → get_or l.places i 0 ≡ place_at l.file l.start i) × ((i : ℕ) → i < l.j → get_or l.changes i 0 ≡ change_at l.file l.start i)
