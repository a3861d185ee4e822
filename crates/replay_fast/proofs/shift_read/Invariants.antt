use Rattle.std.proofs.Common.{◌≡◌, ℕ, ◌<◌, ◌≤◌}
use Rattle.arcs_column.specs.Ways.{direction_at}
use Rattle.replay_fast.proofs.Moving.{Shifting}
use Rattle.replay_fast.proofs.shift_read.Given as goal

abbrev pub invariant-loop-j : goal.invariant-loop-j
invariant-loop-j l = (l.middle ≡ l.to) × Shifting l.file l.start l.from l.j l.initial.marking l.marking l.all

-- from the first output on there are outputs only
abbrev pub invariant-loop-j-2 : goal.invariant-loop-j-2
invariant-loop-j-2 l = ((k : ℕ) → l.middle ≤ k → k < l.to → direction_at l.file l.start k ≡ 0 → ⊥) × Shifting l.file l.start l.from l.j l.fn.marking l.marking l.all
