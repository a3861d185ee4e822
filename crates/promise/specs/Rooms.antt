-- "Room that always suffices, whatever the plan and the list, so that 13 is not met" (include/nesfoal.h).
use Rattle.std.specs.Prelude.{ℕ, ◌≤◌, List, ◌≢◌}
use Rattle.promise.specs.Calls.{safety_answer, branching_answer}
use Rattle.promise.specs.Firing.{replay_answer}
use Rattle.promise.specs.Shadow.{shadow_answer}
use Rattle.promise.specs.Together.{together_answer}
use Rattle.promise.specs.RunCut.{run_answer}

-- 1,024 entries for a marking, 65,535 for a shadow or for positions, 45,072 bytes for a slice: with them no call on this file answers 13
pub record RoomSuffices (file : List ℕ) : Type 0 where
  pub replay : (list : List ℕ) (room : ℕ) → 1024 ≤ room → (replay_answer file list room).refusal ≢ 13
  pub shadow : (slice list : List ℕ) (room space : ℕ) → 1024 ≤ room → 65535 ≤ space → (shadow_answer file slice list room space).run.refusal ≢ 13
  pub together : (t : ℕ) (marking : List ℕ) (room : ℕ) → 1024 ≤ room → (together_answer file t marking room).refusal ≢ 13
  pub safety : (Q : List ℕ) (room : ℕ) → 45072 ≤ room → (safety_answer file Q room).refusal ≢ 13
  pub branching : (Q : List ℕ) (room : ℕ) → 45072 ≤ room → (branching_answer file Q room).refusal ≢ 13
  pub run_cut_row : (Q list : List ℕ) (room entries : ℕ) → 45072 ≤ room → 65535 ≤ entries → (run_answer file Q list room entries).refusal ≢ 13
