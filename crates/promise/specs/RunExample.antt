-- Rows for the run cut (document 02, A1), worked out by hand, on the small plan of document 01; and document 002's own claim, shown false.
use Rattle.std.specs.Prelude.{ℕ, true, false, List, [], ◌∷◌, ◌≡◌, set}
use Rattle.net.specs.Slice.{project}
use Rattle.net.specs.Guarantee.{plan_tokens, SliceFires, slice_tokens, struck}
use Rattle.file.specs.Layout.{net_of, slice_of}
use Rattle.promise.specs.Calls.{checked}
use Rattle.promise.specs.Firing.{replay_answer}
use Rattle.promise.specs.RunCut.{run_file, RunAnswer, run_written, run_or, run_stuck, run_answer, run_buffer, run_positions}
use Rattle.promise.specs.Promise.{empty_slice}
use Rattle.promise.specs.Example.{small_plan, parallel_plan, Holds}

-- a run cut into a buffer of 124 bytes and five entries, all 9 before: its answer, and the entries after it
pub record Written (plan Q list : List ℕ) (a : RunAnswer) (entries : List ℕ) : Type 0 where
  pub answer : run_answer plan Q list 124 5 ≡ a
  pub positions : run_positions plan Q list 124 (9 ∷ 9 ∷ 9 ∷ 9 ∷ 9 ∷ []) ≡ entries

pub record SmallRuns : Type 0 where
  -- the starred list: every firing fed the bell
  pub all_chosen : Written small_plan (4 ∷ []) (0 ∷ 1 ∷ 0 ∷ 1 ∷ 2 ∷ []) (run_written 116 5 3 5) (0 ∷ 1 ∷ 2 ∷ 3 ∷ 4 ∷ [])
  -- transition 3 only takes
  pub taker_left_out : Written small_plan (3 ∷ []) (3 ∷ 0 ∷ 1 ∷ []) (run_written 92 4 2 2) (1 ∷ 2 ∷ 9 ∷ 9 ∷ 9 ∷ [])
  pub only_what_feeds : Written small_plan (2 ∷ []) (3 ∷ 0 ∷ 1 ∷ []) (run_written 60 3 1 1) (1 ∷ 9 ∷ 9 ∷ 9 ∷ 9 ∷ [])
  pub kept : Holds (run_file small_plan (2 ∷ []) (3 ∷ 0 ∷ 1 ∷ [])) (0 ∷ 1 ∷ 2 ∷ []) (0 ∷ []) 3 60
  -- nothing fed place 0, and an empty list feeds nothing: the places of Q, and no transition
  pub nothing_fed : Written small_plan (0 ∷ []) (3 ∷ 0 ∷ 1 ∷ []) (run_written 22 1 0 0) (9 ∷ 9 ∷ 9 ∷ 9 ∷ 9 ∷ [])
  pub empty_list : Written small_plan (2 ∷ 4 ∷ []) [] (run_written 28 2 0 0) (9 ∷ 9 ∷ 9 ∷ 9 ∷ 9 ∷ [])
  -- "The run cut with empty Q likewise, with no position chosen"
  pub no_place : Written small_plan [] (3 ∷ 0 ∷ 1 ∷ []) (run_written 16 0 0 0) (9 ∷ 9 ∷ 9 ∷ 9 ∷ 9 ∷ [])
  pub empty_slice_row : run_file small_plan [] (3 ∷ 0 ∷ 1 ∷ []) ≡ empty_slice 1
  -- "raised the marking": transition 0 takes a token of place 1 and gives it back
  pub given_back : Written (set small_plan 40 1) (1 ∷ []) (0 ∷ []) (run_written 22 1 0 0) (9 ∷ 9 ∷ 9 ∷ 9 ∷ 9 ∷ [])
  -- "in and out are sums": transition 2 takes two tokens of place 3 by two arcs, and gives two back by one
  pub by_sums : Written (set (set parallel_plan 88 3) 90 2) (3 ∷ []) (0 ∷ 1 ∷ 0 ∷ 1 ∷ 2 ∷ []) (run_written 92 4 2 4) (0 ∷ 1 ∷ 2 ∷ 3 ∷ 9 ∷ [])
  pub parallel : Written parallel_plan (4 ∷ []) (0 ∷ 1 ∷ 0 ∷ 1 ∷ 2 ∷ []) (run_written 124 5 3 5) (0 ∷ 1 ∷ 2 ∷ 3 ∷ 4 ∷ [])
  -- 14 with index, place and amount, before 13; 13 for the file, then for the positions; what is lent stays
  pub sticks : run_answer small_plan (4 ∷ []) (3 ∷ 0 ∷ 1 ∷ 0 ∷ []) 0 0 ≡ run_stuck 3 0 1
  pub sticks_for_no_place : run_answer small_plan [] (0 ∷ 0 ∷ []) 0 0 ≡ run_stuck 1 1 1
  pub unknown_first : run_answer small_plan (4 ∷ []) (3 ∷ 0 ∷ 1 ∷ 0 ∷ 4 ∷ []) 0 0 ≡ run_or 12 (run_stuck 3 0 1)
  pub criterion_first : run_answer small_plan (5 ∷ []) (4 ∷ []) 0 0 ≡ run_or 10 (run_stuck 3 0 1)
  pub no_room : run_answer small_plan (2 ∷ []) (3 ∷ 0 ∷ 1 ∷ []) 59 1 ≡ run_or 13 (run_written 60 3 1 1)
  pub no_entries : run_answer small_plan (2 ∷ []) (3 ∷ 0 ∷ 1 ∷ []) 60 0 ≡ run_or 13 (run_written 60 3 1 1)
  pub file_kept : run_buffer small_plan (2 ∷ []) (3 ∷ 0 ∷ 1 ∷ []) (7 ∷ []) 1 ≡ 7 ∷ []
  pub entries_kept : run_positions small_plan (2 ∷ []) (3 ∷ 0 ∷ 1 ∷ []) 59 (9 ∷ []) ≡ 9 ∷ []

-- places 0 (1 token), 1, 2; transition 0 takes one from 0 and gives one to 1, transition 1 from 1 to 2, transition 2 gives one to 0 and takes none
unfoldable pub again_plan : List ℕ
again_plan =
    1 ∷ 0 ∷ 0 ∷ 0 ∷ 0 ∷ 0 ∷ 0 ∷ 0 ∷ 0 ∷ 0 ∷ 0 ∷ 0
    ∷ 0 ∷ 0 ∷ 0 ∷ 0 ∷ 0 ∷ 0 ∷ 1 ∷ 0
    ∷ 0 ∷ 0 ∷ 1 ∷ 0 ∷ 1 ∷ 0 ∷ 1 ∷ 0
    ∷ 1 ∷ 0 ∷ 0 ∷ 0 ∷ 1 ∷ 0 ∷ 1 ∷ 0
    ∷ 1 ∷ 0 ∷ 1 ∷ 0 ∷ 2 ∷ 0 ∷ 1 ∷ 0
    ∷ 2 ∷ 0 ∷ 1 ∷ 0 ∷ 0 ∷ 0 ∷ 1 ∷ 0
    ∷ 52 ∷ 0 ∷ 0 ∷ 0 ∷ 3 ∷ 0 ∷ 3 ∷ 0 ∷ 5 ∷ 0 ∷ 0 ∷ 1 ∷ 0x42 ∷ 0x45 ∷ 0x4C ∷ 0x4C ∷ []

-- for place 2, after 0, 1, 2, 0: the firings 0 and 1 are chosen, transition 0 is kept and "fires again unchosen"
unfoldable pub again_file : List ℕ
again_file = run_file again_plan (2 ∷ []) (0 ∷ 1 ∷ 2 ∷ 0 ∷ [])

-- "Document 002 claims this for all firings of kept transitions": of every run, the list without the transitions that are missing from the slice fires there
unfoldable pub Printed : Type 0
Printed = (plan Q list : List ℕ) → (run_answer plan Q list 45072 65535).refusal ≡ 0 → SliceFires (slice_of (run_file plan Q list)) (struck (slice_of (run_file plan Q list)) list)

-- "that can fail when a kept transition fires again unchosen"
pub record Again : Type 0 where
  pub chosen : Written again_plan (2 ∷ []) (0 ∷ 1 ∷ 2 ∷ 0 ∷ []) (run_written 70 3 2 2) (0 ∷ 1 ∷ 9 ∷ 9 ∷ 9 ∷ [])
  pub kept : Holds again_file (0 ∷ 1 ∷ 2 ∷ []) (0 ∷ 1 ∷ []) 4 70
  -- all firings of kept transitions stick
  pub kept_firings : project (slice_of again_file) (0 ∷ 1 ∷ 2 ∷ 0 ∷ []) ≡ 0 ∷ 1 ∷ 0 ∷ []
  pub kept_stick : replay_answer again_file (0 ∷ 1 ∷ 0 ∷ []) 3 ≡ record { refused = false; refusal = 0; stuck = true; full = false; index = 2; place = 0; amount = 1 }
  pub refuted : ¬ Printed
  -- and where they fire, a place outside of Q may have fewer tokens than in the plan: after 0, 1, 2 place 0 has one there and none here
  pub in_plan : plan_tokens (net_of again_plan) (0 ∷ 1 ∷ 2 ∷ []) 0 ≡ 1
  pub in_the_slice : slice_tokens (slice_of again_file) (struck (slice_of again_file) (0 ∷ 1 ∷ 2 ∷ [])) 0 ≡ 0
  -- "at least" and not equal: for place 1 firing 1, which takes, is not chosen, and a token is left that the plan has not
  pub more_in_slice : slice_tokens (slice_of (run_file again_plan (1 ∷ []) (0 ∷ 1 ∷ []))) (0 ∷ []) 1 ≡ 1
  pub less_in_plan : plan_tokens (net_of again_plan) (0 ∷ 1 ∷ []) 1 ≡ 0
  -- "The checker need not accept such a slice": transition 2 raises the kept place 0 and is left out
  pub not_accepted : checked again_plan again_file (2 ∷ []) ≡ record { refused = false; code = 108; number = 2 }
