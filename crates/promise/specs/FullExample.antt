-- Rows for files of edition 2 (document 02, A9), worked out by hand: the small plan of document 01, with a cap of 1 on place 3.
use Rattle.std.specs.Prelude.{ℕ, true, false, List, [], ◌∷◌, ◌≡◌, set}
use Rattle.net.specs.Net.{full}
use Rattle.net.specs.Slice.{keeping}
use Rattle.file_words.specs.Word.{byte_at}
use Rattle.file.specs.Layout.{net_of}
use Rattle.file.specs.Refusal.{file_refusal}
use Rattle.file_writing.specs.Writing.{slice_bytes}
use Rattle.file_header.specs.declared.Due.TheVariants as due
use Rattle.promise.specs.Calls.{safety_file, branching_file, checked, checked_bytes}
use Rattle.promise.specs.Firing.{effect_answer, replay_told, replay_answer, replay_marking}
use Rattle.promise.specs.Shadow.{shadow_answer}
use Rattle.promise.specs.RunCut.{run_answer, run_file}
use Rattle.promise.specs.Promise.{empty_slice}
use Rattle.promise.specs.Example.{small_plan, Holds}

-- 128 bytes: each place's marking and cap
unfoldable pub full_plan : List ℕ
full_plan =
    2 ∷ 0 ∷ 0 ∷ 0 ∷ 0 ∷ 0 ∷ 0 ∷ 0
    ∷ 1 ∷ 0 ∷ 0 ∷ 0 ∷ 0 ∷ 0 ∷ 0 ∷ 0
    ∷ 0 ∷ 0 ∷ 0 ∷ 0 ∷ 0 ∷ 0 ∷ 0 ∷ 0
    ∷ 0 ∷ 0 ∷ 0 ∷ 0 ∷ 1 ∷ 0 ∷ 0 ∷ 0
    ∷ 0 ∷ 0 ∷ 0 ∷ 0 ∷ 0 ∷ 0 ∷ 0 ∷ 0
    ∷ 0 ∷ 0 ∷ 0 ∷ 0 ∷ 0 ∷ 0 ∷ 1 ∷ 0
    ∷ 0 ∷ 0 ∷ 0 ∷ 0 ∷ 1 ∷ 0 ∷ 1 ∷ 0
    ∷ 0 ∷ 0 ∷ 1 ∷ 0 ∷ 2 ∷ 0 ∷ 1 ∷ 0
    ∷ 1 ∷ 0 ∷ 0 ∷ 0 ∷ 2 ∷ 0 ∷ 1 ∷ 0
    ∷ 1 ∷ 0 ∷ 1 ∷ 0 ∷ 1 ∷ 0 ∷ 1 ∷ 0
    ∷ 1 ∷ 0 ∷ 1 ∷ 0 ∷ 3 ∷ 0 ∷ 1 ∷ 0
    ∷ 2 ∷ 0 ∷ 0 ∷ 0 ∷ 3 ∷ 0 ∷ 2 ∷ 0
    ∷ 2 ∷ 0 ∷ 1 ∷ 0 ∷ 4 ∷ 0 ∷ 1 ∷ 0
    ∷ 3 ∷ 0 ∷ 0 ∷ 0 ∷ 0 ∷ 0 ∷ 1 ∷ 0
    ∷ 112 ∷ 0 ∷ 0 ∷ 0 ∷ 5 ∷ 0 ∷ 4 ∷ 0 ∷ 9 ∷ 0 ∷ 0 ∷ 2 ∷ 0x42 ∷ 0x45 ∷ 0x4C ∷ 0x4C ∷ []

-- the same without a cap, in edition 2
unfoldable pub zero_plan : List ℕ
zero_plan = set full_plan 28 0

pub record FullRows : Type 0 where
  pub read : file_refusal due.Plan full_plan ≡ 0
  -- "full with the lowest such place and .. the excess over its cap"; the marking is the one before
  pub fourth_full : replay_answer full_plan (0 ∷ 1 ∷ 0 ∷ 1 ∷ []) 5 ≡ record { refused = false; refusal = 0; stuck = true; full = true; index = 3; place = 3; amount = 1 }
  pub before : replay_marking full_plan (0 ∷ 1 ∷ 0 ∷ 1 ∷ []) (9 ∷ 9 ∷ 9 ∷ 9 ∷ 9 ∷ 7 ∷ []) ≡ 0 ∷ 0 ∷ 1 ∷ 1 ∷ 0 ∷ 7 ∷ []
  -- "after the input test"
  pub short_first : replay_answer full_plan (0 ∷ 1 ∷ 1 ∷ []) 5 ≡ record { refused = false; refusal = 0; stuck = true; full = false; index = 2; place = 2; amount = 1 }
  -- a cap of 0 is none
  pub no_cap : (replay_answer zero_plan (0 ∷ 1 ∷ 0 ∷ 1 ∷ []) 5).stuck ≡ false
  -- the larger cuts, in the plan's edition
  pub safety_cut : Holds (safety_file full_plan (2 ∷ [])) (0 ∷ 1 ∷ 2 ∷ 3 ∷ []) (0 ∷ 1 ∷ 2 ∷ []) 7 118
  pub branching_cut_row : Holds (branching_file full_plan (2 ∷ [])) (0 ∷ 1 ∷ 2 ∷ 3 ∷ []) (0 ∷ 1 ∷ 2 ∷ 3 ∷ []) 8 128
  pub own_cut : (checked full_plan (safety_file full_plan (2 ∷ [])) (2 ∷ [])).code ≡ 0
  pub zero_caps : Holds (safety_file zero_plan (2 ∷ [])) (0 ∷ 1 ∷ 2 ∷ []) (0 ∷ 1 ∷ []) 5 90
  pub no_place : safety_file full_plan [] ≡ empty_slice 2
  -- 109, 110 and 103: "naming the lowest transition", and the plan's place
  pub no_output : checked full_plan (safety_file small_plan (2 ∷ [])) (2 ∷ []) ≡ record { refused = false; code = 109; number = 1 }
  pub no_changer : checked full_plan (slice_bytes 2 (keeping (net_of full_plan) (0 ∷ 1 ∷ 2 ∷ 3 ∷ []) (0 ∷ 1 ∷ []))) (2 ∷ []) ≡ record { refused = false; code = 110; number = 2 }
  pub other_cap : checked full_plan (safety_file zero_plan (3 ∷ [])) (2 ∷ []) ≡ record { refused = false; code = 103; number = 3 }
  -- "Edition 1 counts as uncapped": editions are not compared
  pub older_slice : (checked zero_plan (safety_file small_plan (2 ∷ [])) (2 ∷ [])).code ≡ 0
  pub newer_slice : (checked small_plan (safety_file zero_plan (2 ∷ [])) (2 ∷ [])).code ≡ 0
  -- the shadow of what fired before the short place, and before the full one
  pub shadow : (shadow_answer full_plan (safety_file full_plan (2 ∷ [])) (3 ∷ 0 ∷ 1 ∷ 1 ∷ []) 5 2).count ≡ 2
  pub full_shadow : shadow_answer full_plan (safety_file full_plan (2 ∷ [])) (0 ∷ 1 ∷ 0 ∷ 1 ∷ []) 5 3 ≡ record { run = replay_told (full 3 3 1); count = 3 }
  -- "2 now lets edition 2 pass", and no other
  pub edition_3 : file_refusal due.Plan (set full_plan 123 3) ≡ 2
  -- 16, of a plan and of a slice, "checked after refusal 5" and before any arc; in the C call too
  pub over : file_refusal due.Plan (set full_plan 24 2) ≡ 16
  pub at_cap : file_refusal due.Plan (set full_plan 24 1) ≡ 0
  pub after_5 : file_refusal due.Plan (set (set full_plan 24 2) 112 111) ≡ 5
  pub before_6 : file_refusal due.Plan (set (set full_plan 24 2) 46 0) ≡ 16
  pub slice_over : file_refusal due.Slice (set (safety_file full_plan (2 ∷ [])) 24 2) ≡ 16
  pub in_check : checked_bytes full_plan (set (safety_file full_plan (2 ∷ [])) 24 2) (2 ∷ 0 ∷ []) ≡ 16
  pub in_effect : (effect_answer (set full_plan 24 2) 9 9).refusal ≡ 16
  -- 17 "after the file", so before Q
  pub capped_run : (run_answer full_plan (9 ∷ []) (0 ∷ []) 124 5).refusal ≡ 17
  pub over_run : (run_answer (set full_plan 24 2) (9 ∷ []) (0 ∷ []) 124 5).refusal ≡ 16
  pub zero_run : Holds (run_file zero_plan (2 ∷ []) (0 ∷ [])) (0 ∷ 1 ∷ 2 ∷ []) (0 ∷ []) 3 72
  -- "a slice keeps its plan's edition": the byte before the letters
  pub keeps_edition : (byte_at (safety_file zero_plan (2 ∷ [])) 85 ≡ 2) × (byte_at (safety_file small_plan (2 ∷ [])) 73 ≡ 1)
