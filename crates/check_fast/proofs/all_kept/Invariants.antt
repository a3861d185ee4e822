use Prim.Native.Nat.{ℕ, ◌<◌}
use mathlib.Core.Path.{◌≡◌}
use lib.ListN.{get_or}
use Rattle.check_fast.specs.Entries.{left_place}
use Rattle.check_fast.proofs.all_kept.Given as goal

abbrev pub invariant-loop-place : goal.invariant-loop-place
invariant-loop-place l = (k : ℕ) → k < l.place-index → get_or l.places (get_or l.criterion k 0) 0 ≡ left_place → ⊥
