-- The order of refusals (document 01, "Turned back, by place of checking"), a row for each pair of neighbours that no other table has: both conditions hold, and the earlier one is answered.
-- The arc run has no number; the two conditions of 13 that one call may meet are one number.
use Rattle.std.specs.Prelude.{ℕ, ◌<◌, List, [], ◌∷◌, ◌≡◌, length, set}
use Rattle.file.specs.Refusal.{file_refusal}
use Rattle.file_header.specs.declared.Due.TheVariants as due
use Rattle.promise.specs.Calls.{safety_file, safety_answer, branching_answer, checked, checked_bytes}
use Rattle.promise.specs.Firing.{effect_answer, replay_answer}
use Rattle.promise.specs.Shadow.{shadow_answer}
use Rattle.promise.specs.Together.{together_answer}
use Rattle.promise.specs.RunCut.{run_refusal, run_answer}
use Rattle.promise.specs.Example.{small_plan, one_place_cut}

-- "Within one place of checking the lower number comes first": the trailer, the arcs, the origins. 1 before 2: `too_short`; 4 before 5: `many_places`; 5 before 16 before 6: `after_5`, `before_6`
pub record FileOrder : Type 0 where
  -- edition 3 and kind 2; a plan of 1,025 places where a slice is asked for
  pub letters_before_kind : file_refusal due.Plan (set (set small_plan 102 2) 103 3) ≡ 2
  pub kind_before_counts : file_refusal due.Slice (set (set small_plan 96 1) 97 4) ≡ 3
  -- "Arcs are checked one by one, 6 before 7": the second arc has weight 0 and is below the first; the second is below the first and the third has weight 0
  pub range_before_order : file_refusal due.Plan (set (set small_plan 24 2) 34 0) ≡ 6
  pub arc_by_arc : file_refusal due.Plan (set (set small_plan 24 2) 42 0) ≡ 7
  -- the second arc is below the first, and the place origins are 0, 0, 2
  pub arcs_before_origins : file_refusal due.Slice (set (set (safety_file small_plan (2 ∷ [])) 16 2) 54 0) ≡ 7

-- "Files come first (plan before slice), then Q, list, buffer"
pub record CallOrder : Type 0 where
  -- effect: the file, 10, 12 (`no_place`)
  pub effect_file : (effect_answer [] 9 9).refusal ≡ 1
  -- replay: the file, the list, 13
  pub replay_file : (replay_answer [] (0 ∷ []) 0).refusal ≡ 1
  pub replay_list : (replay_answer small_plan (4 ∷ []) 0).refusal ≡ 12
  -- shadow: a slice as plan and no bytes as slice; slice before list and list before buffers: `no_slice`, `unknown`
  pub shadow_plan : (shadow_answer one_place_cut [] (4 ∷ []) 0 0).run.refusal ≡ 3
  pub shadow_slice : (shadow_answer small_plan [] (4 ∷ []) 0 0).run.refusal ≡ 1
  -- together: the plan, 12, 15, 13: `no_plan`, `no_transition`, `four_entries`
  pub together_plan : (together_answer [] 9 [] 0).refusal ≡ 1
  -- the cuts: the plan, 10, 13
  pub safety_plan : (safety_answer [] (9 ∷ []) 0).refusal ≡ 1
  pub safety_criterion : (safety_answer small_plan (9 ∷ []) 0).refusal ≡ 10
  pub branching_plan : (branching_answer [] (9 ∷ []) 0).refusal ≡ 1
  pub branching_criterion : (branching_answer small_plan (9 ∷ []) 0).refusal ≡ 10
  -- the run cut: the plan, 17, 10, the list, 14, 13: `over_run`, `capped_run`, `criterion_first`, `unknown_first`, `sticks`
  pub run_plan : (run_answer [] (9 ∷ []) (0 ∷ []) 0 0).refusal ≡ 1
  -- the check: a slice as plan and no bytes as slice; no bytes as slice and place 9
  pub check_plan : (checked one_place_cut [] (9 ∷ [])).code ≡ 3
  pub check_slice : (checked small_plan [] (9 ∷ [])).code ≡ 1
  -- of bytes: one odd byte; three bytes, of which the first two are place 9
  pub bytes_plan : checked_bytes one_place_cut [] (0 ∷ []) ≡ 3
  pub bytes_slice : checked_bytes small_plan [] (0 ∷ []) ≡ 1
  pub odd_before_place : checked_bytes small_plan one_place_cut (9 ∷ 0 ∷ 9 ∷ []) ≡ 9

-- 11 before 12 and before 13: a list above 65,535 entries, whatever its entries are and whatever is lent, once the files, and for the run cut Q, are not refused
pub record LongList (list : List ℕ) : Type 0 where
  pub replayed : (file : List ℕ) (room : ℕ) → file_refusal due.Either file ≡ 0 → (replay_answer file list room).refusal ≡ 11
  pub shadowed : (plan slice : List ℕ) (room space : ℕ) → file_refusal due.Plan plan ≡ 0 → file_refusal due.Slice slice ≡ 0 → (shadow_answer plan slice list room space).run.refusal ≡ 11
  pub cut : (plan Q : List ℕ) (room entries : ℕ) → run_refusal plan Q ≡ 0 → (run_answer plan Q list room entries).refusal ≡ 11

-- the order of refusals
pub record RefusalOrder : Type 0 where
  pub files : FileOrder
  pub calls : CallOrder
  pub long_list : (list : List ℕ) → 65535 < length list → LongList list
