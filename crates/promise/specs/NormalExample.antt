-- Rows for the normal form of a plan file (document 02, A13), worked out by hand.
use Rattle.std.specs.Prelude.{ℕ, true, false, List, [], ◌∷◌, ◌++◌, ◌≡◌, length, set}
use Rattle.promise.specs.Calls.{safety_file}
use Rattle.promise.specs.Normal.{normal_refusal, normal_file, normal_answer, normal_buffer}
use Rattle.promise.specs.Example.{small_plan, parallel_plan}
use Rattle.promise.specs.FullExample.{full_plan, zero_plan}

-- one place, one transition that takes from it by two arcs, of weights v + 256 v' and w + 256 w'
unfoldable pub two_arcs : ℕ → ℕ → ℕ → ℕ → List ℕ
two_arcs v v' w w' =
    0 ∷ 0 ∷ 0 ∷ 0
    ∷ 0 ∷ 0 ∷ 0 ∷ 0 ∷ 0 ∷ 0 ∷ v ∷ v'
    ∷ 0 ∷ 0 ∷ 0 ∷ 0 ∷ 0 ∷ 0 ∷ w ∷ w'
    ∷ 20 ∷ 0 ∷ 0 ∷ 0 ∷ 1 ∷ 0 ∷ 1 ∷ 0 ∷ 2 ∷ 0 ∷ 0 ∷ 1 ∷ 0x42 ∷ 0x45 ∷ 0x4C ∷ 0x4C ∷ []

pub record NormalRows : Type 0 where
  -- the small plan: 8 bytes a place, edition 2, no cap
  pub small : normal_file small_plan ≡ zero_plan
  pub long : length (normal_file small_plan) ≡ 128
  -- with two parallel arcs of 1 for its arc of 2, and with a note
  pub twin : normal_file parallel_plan ≡ zero_plan
  pub noted : normal_file (7 ∷ 7 ∷ 7 ∷ small_plan) ≡ zero_plan
  -- "Normalising twice changes nothing"; caps stay
  pub twice : normal_file zero_plan ≡ zero_plan
  pub capped : normal_file full_plan ≡ full_plan
  -- another weight is another file
  pub heavier : normal_file (set small_plan 74 3) ≡ set zero_plan 94 3
  -- an arc each way is two arcs
  pub both_ways : normal_file (set (two_arcs 1 0 2 0) 14 1) ≡ 0 ∷ 0 ∷ 0 ∷ 0 ∷ 0 ∷ 0 ∷ 0 ∷ 0 ∷ 0 ∷ 0 ∷ 0 ∷ 0 ∷ 0 ∷ 0 ∷ 1 ∷ 0 ∷ 0 ∷ 0 ∷ 1 ∷ 0 ∷ 0 ∷ 0 ∷ 2 ∷ 0
      ∷ 24 ∷ 0 ∷ 0 ∷ 0 ∷ 1 ∷ 0 ∷ 1 ∷ 0 ∷ 2 ∷ 0 ∷ 0 ∷ 2 ∷ 0x42 ∷ 0x45 ∷ 0x4C ∷ 0x4C ∷ []
  -- "25: a joined weight above 65,535": two arcs of 40,000; 65,534 and 1; 65,535 and 1
  pub above : normal_refusal (two_arcs 64 156 64 156) ≡ 25
  pub most : normal_answer (two_arcs 254 255 1 0) 32 ≡ record { refused = false; refusal = 0; length = 32 }
  pub joined : normal_file (two_arcs 254 255 1 0) ≡ 0 ∷ 0 ∷ 0 ∷ 0 ∷ 0 ∷ 0 ∷ 0 ∷ 0 ∷ 0 ∷ 0 ∷ 0 ∷ 0 ∷ 0 ∷ 0 ∷ 255 ∷ 255
      ∷ 16 ∷ 0 ∷ 0 ∷ 0 ∷ 1 ∷ 0 ∷ 1 ∷ 0 ∷ 1 ∷ 0 ∷ 0 ∷ 2 ∷ 0x42 ∷ 0x45 ∷ 0x4C ∷ 0x4C ∷ []
  pub one_more : normal_refusal (two_arcs 255 255 1 0) ≡ 25
  -- the file first, then 25 "before the buffer", then 13
  pub a_slice : normal_answer (safety_file small_plan (2 ∷ [])) 128 ≡ record { refused = true; refusal = 3; length = 0 }
  pub slice_above : normal_refusal (set (two_arcs 64 156 64 156) 30 1) ≡ 3
  pub no_room_above : normal_answer (two_arcs 64 156 64 156) 0 ≡ record { refused = true; refusal = 25; length = 0 }
  pub little_room : normal_answer small_plan 127 ≡ record { refused = true; refusal = 13; length = 0 }
  pub kept : normal_buffer small_plan (9 ∷ 8 ∷ []) ≡ 9 ∷ 8 ∷ []
  pub past : normal_buffer (two_arcs 254 255 1 0) (normal_file (two_arcs 1 0 1 0) ++ (9 ∷ 8 ∷ [])) ≡ normal_file (two_arcs 254 255 1 0) ++ (9 ∷ 8 ∷ [])
