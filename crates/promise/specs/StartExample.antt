-- Rows for the change of plan and for calls from a lent marking (document 02, A12), worked out by hand, on the small plan of document 01.
use Rattle.std.specs.Prelude.{ℕ, true, false, List, [], ◌∷◌, ◌≡◌, take}
use Rattle.promise.specs.Calls.{safety_file}
use Rattle.promise.specs.Starts.{started, replay_from_answer, replay_from_marking, safety_from_answer, branching_from_answer, checked_from}
use Rattle.promise.specs.Transfer.{transfer_answer, transfer_marking}
use Rattle.promise.specs.Example.{small_plan, one_place_plan, one_place_cut}

-- three places without tokens, of which 1 holds two and 2 three, and no transition
unfoldable pub three_places : List ℕ
three_places =
    0 ∷ 0 ∷ 0 ∷ 0 ∷ 0 ∷ 0 ∷ 0 ∷ 0 ∷ 0 ∷ 0 ∷ 0 ∷ 0 ∷ 2 ∷ 0 ∷ 0 ∷ 0 ∷ 0 ∷ 0 ∷ 0 ∷ 0 ∷ 3 ∷ 0 ∷ 0 ∷ 0
    ∷ 24 ∷ 0 ∷ 0 ∷ 0 ∷ 3 ∷ 0 ∷ 0 ∷ 0 ∷ 0 ∷ 0 ∷ 0 ∷ 2 ∷ 0x42 ∷ 0x45 ∷ 0x4C ∷ 0x4C ∷ []

-- from the small plan to them: waiting and bay free to 0, in bay to 1, left to 2, the bell to none
unfoldable pub to_three : List ℕ
to_three = 0 ∷ 0 ∷ 1 ∷ 2 ∷ 65535 ∷ []

pub record Transfers : Type 0 where
  pub answer : transfer_answer small_plan three_places (0 ∷ 1 ∷ 1 ∷ 3 ∷ 0 ∷ []) to_three 4 ≡ 0
  pub marking : transfer_marking small_plan three_places (0 ∷ 1 ∷ 1 ∷ 3 ∷ 0 ∷ []) to_three (9 ∷ 9 ∷ 9 ∷ 7 ∷ []) ≡ 1 ∷ 1 ∷ 3 ∷ 7 ∷ []
  -- "the sum of what maps to it"
  pub sums : transfer_marking small_plan three_places (2 ∷ 1 ∷ 0 ∷ 0 ∷ 0 ∷ []) to_three (9 ∷ 9 ∷ 9 ∷ []) ≡ 3 ∷ 0 ∷ 0 ∷ []
  pub most : transfer_marking small_plan three_places (4294967290 ∷ 5 ∷ 0 ∷ 0 ∷ 0 ∷ []) to_three (9 ∷ 9 ∷ 9 ∷ []) ≡ 4294967295 ∷ 0 ∷ 0 ∷ []
  pub above_most : transfer_answer small_plan three_places (4294967290 ∷ 6 ∷ 0 ∷ 0 ∷ 0 ∷ []) to_three 3 ≡ 24
  pub above_cap : transfer_answer small_plan three_places (0 ∷ 0 ∷ 3 ∷ 0 ∷ 0 ∷ []) to_three 3 ≡ 24
  pub stranded : transfer_answer small_plan three_places (0 ∷ 1 ∷ 1 ∷ 3 ∷ 1 ∷ []) to_three 3 ≡ 23
  pub no_such_place : transfer_answer small_plan three_places (0 ∷ 1 ∷ 1 ∷ 3 ∷ 0 ∷ []) (0 ∷ 0 ∷ 1 ∷ 2 ∷ 3 ∷ []) 3 ≡ 22
  pub short_running : transfer_answer small_plan three_places (0 ∷ 1 ∷ 1 ∷ 3 ∷ []) to_three 3 ≡ 22
  pub long_table : transfer_answer small_plan three_places (0 ∷ 1 ∷ 1 ∷ 3 ∷ 0 ∷ []) (0 ∷ 0 ∷ 1 ∷ 2 ∷ 65535 ∷ 0 ∷ []) 3 ≡ 22
  -- in order: an unknown place, a place with no target, a sum, the room; and the files before all of them
  pub unknown_first : transfer_answer small_plan three_places (9 ∷ 1 ∷ 9 ∷ 3 ∷ 1 ∷ []) (65535 ∷ 0 ∷ 1 ∷ 2 ∷ 3 ∷ []) 0 ≡ 22
  pub stranded_next : transfer_answer small_plan three_places (0 ∷ 1 ∷ 9 ∷ 3 ∷ 1 ∷ []) to_three 0 ≡ 23
  pub sum_next : transfer_answer small_plan three_places (0 ∷ 1 ∷ 9 ∷ 3 ∷ 0 ∷ []) to_three 0 ≡ 24
  pub no_room : transfer_answer small_plan three_places (0 ∷ 1 ∷ 1 ∷ 3 ∷ 0 ∷ []) to_three 2 ≡ 13
  pub lent_kept : transfer_marking small_plan three_places (0 ∷ 1 ∷ 9 ∷ 3 ∷ 0 ∷ []) to_three (9 ∷ 9 ∷ 9 ∷ 7 ∷ []) ≡ 9 ∷ 9 ∷ 9 ∷ 7 ∷ []
  pub old_first : transfer_answer [] one_place_cut [] [] 0 ≡ 1
  pub no_plan : transfer_answer one_place_plan one_place_cut [] [] 0 ≡ 3

pub record FromThere : Type 0 where
  -- two firings on from the marking carried
  pub fires : replay_from_answer small_plan (0 ∷ 1 ∷ 1 ∷ 3 ∷ 0 ∷ []) (1 ∷ 2 ∷ []) 6 ≡ record { refused = false; refusal = 0; stuck = false; full = false; index = 0; place = 0; amount = 0 }
  pub ends : replay_from_marking small_plan (0 ∷ 1 ∷ 1 ∷ 3 ∷ 0 ∷ []) (1 ∷ 2 ∷ []) (9 ∷ 9 ∷ 9 ∷ 9 ∷ 9 ∷ 7 ∷ []) ≡ 0 ∷ 2 ∷ 0 ∷ 2 ∷ 1 ∷ 7 ∷ []
  pub sticks : replay_from_answer small_plan (0 ∷ 1 ∷ 1 ∷ 3 ∷ 0 ∷ []) (1 ∷ 0 ∷ []) 6 ≡ record { refused = false; refusal = 0; stuck = true; full = false; index = 1; place = 0; amount = 1 }
  -- in order: the file, 22, 24, the list, the room
  pub file_first : (replay_from_answer [] (0 ∷ []) [] 0).refusal ≡ 1
  pub short_start : (replay_from_answer small_plan (0 ∷ []) (9 ∷ []) 0).refusal ≡ 22
  pub short_and_large : (replay_from_answer small_plan (4294967296 ∷ []) [] 0).refusal ≡ 22
  pub large_start : (replay_from_answer small_plan (0 ∷ 0 ∷ 0 ∷ 0 ∷ 4294967296 ∷ []) (9 ∷ []) 0).refusal ≡ 24
  pub then_list : (replay_from_answer small_plan (0 ∷ 0 ∷ 0 ∷ 0 ∷ 0 ∷ []) (9 ∷ []) 0).refusal ≡ 12
  pub then_room : (replay_from_answer small_plan (0 ∷ 0 ∷ 0 ∷ 0 ∷ 0 ∷ []) [] 4).refusal ≡ 13
  pub largest_start : (replay_from_answer small_plan (0 ∷ 0 ∷ 0 ∷ 0 ∷ 4294967295 ∷ []) [] 5).refusal ≡ 0
  pub above_cap : (replay_from_answer three_places (0 ∷ 0 ∷ 4 ∷ []) [] 3).refusal ≡ 24
  pub lent_kept : replay_from_marking small_plan (0 ∷ []) [] (9 ∷ []) ≡ 9 ∷ []
  -- a slice may be replayed from a start, by its own places
  pub of_a_slice : replay_from_marking one_place_cut (5 ∷ []) [] (9 ∷ []) ≡ 5 ∷ []
  -- the cut from there is as long as the plain one, and it is accepted there and not at the plan's own marking
  pub cut : safety_from_answer small_plan (1 ∷ 0 ∷ 1 ∷ 0 ∷ 0 ∷ []) (2 ∷ []) 78 ≡ record { refused = false; refusal = 0; length = 78; places = 3; transitions = 2 }
  pub branches : branching_from_answer small_plan (1 ∷ 0 ∷ 1 ∷ 0 ∷ 0 ∷ []) (2 ∷ []) 88 ≡ record { refused = false; refusal = 0; length = 88; places = 3; transitions = 3 }
  pub marked : take 12 (safety_file (started small_plan (1 ∷ 0 ∷ 1 ∷ 0 ∷ 0 ∷ [])) (2 ∷ [])) ≡ 1 ∷ 0 ∷ 0 ∷ 0 ∷ 0 ∷ 0 ∷ 0 ∷ 0 ∷ 1 ∷ 0 ∷ 0 ∷ 0 ∷ []
  pub accepted : (checked_from small_plan (safety_file (started small_plan (1 ∷ 0 ∷ 1 ∷ 0 ∷ 0 ∷ [])) (2 ∷ [])) (1 ∷ 0 ∷ 1 ∷ 0 ∷ 0 ∷ []) (2 ∷ [])).code ≡ 0
  pub other_start : checked_from small_plan (safety_file small_plan (2 ∷ [])) (1 ∷ 0 ∷ 1 ∷ 0 ∷ 0 ∷ []) (2 ∷ []) ≡ record { refused = false; code = 103; number = 0 }
  -- the cuts in order: the plan, 22, 24, Q, the room
  pub cut_plan : (safety_from_answer one_place_cut [] (9 ∷ []) 0).refusal ≡ 3
  pub cut_short : (safety_from_answer small_plan (4294967296 ∷ []) (9 ∷ []) 0).refusal ≡ 22
  pub cut_large : (safety_from_answer small_plan (0 ∷ 0 ∷ 0 ∷ 0 ∷ 4294967296 ∷ []) (9 ∷ []) 0).refusal ≡ 24
  pub cut_criterion : (safety_from_answer small_plan (1 ∷ 0 ∷ 1 ∷ 0 ∷ 0 ∷ []) (9 ∷ []) 0).refusal ≡ 10
  pub cut_room : (safety_from_answer small_plan (1 ∷ 0 ∷ 1 ∷ 0 ∷ 0 ∷ []) (2 ∷ []) 77).refusal ≡ 13
  pub branching_plan : (branching_from_answer one_place_cut [] (9 ∷ []) 0).refusal ≡ 3
  pub branching_short : (branching_from_answer small_plan (4294967296 ∷ []) (9 ∷ []) 0).refusal ≡ 22
  pub branching_large : (branching_from_answer small_plan (0 ∷ 0 ∷ 0 ∷ 0 ∷ 4294967296 ∷ []) (9 ∷ []) 0).refusal ≡ 24
  pub branching_criterion : (branching_from_answer small_plan (1 ∷ 0 ∷ 1 ∷ 0 ∷ 0 ∷ []) (9 ∷ []) 0).refusal ≡ 10
  pub branching_room : (branching_from_answer small_plan (1 ∷ 0 ∷ 1 ∷ 0 ∷ 0 ∷ []) (2 ∷ []) 87).refusal ≡ 13
  -- the check in order: the plan, the slice, 22, 24, Q
  pub plan_first : (checked_from one_place_cut [] [] []).code ≡ 3
  pub slice_first : (checked_from small_plan small_plan [] (9 ∷ [])).code ≡ 3
  pub start_next : (checked_from small_plan one_place_cut (4294967296 ∷ []) (9 ∷ [])).code ≡ 22
  pub start_large : (checked_from small_plan one_place_cut (0 ∷ 0 ∷ 0 ∷ 0 ∷ 4294967296 ∷ []) (9 ∷ [])).code ≡ 24
  pub then_criterion : (checked_from small_plan one_place_cut (0 ∷ 0 ∷ 0 ∷ 0 ∷ 0 ∷ []) (9 ∷ [])).code ≡ 10
  -- the plan's P and not the slice's
  pub slices_length : (checked_from small_plan one_place_cut (3 ∷ []) (0 ∷ [])).code ≡ 22

-- from the three places to the small plan, with six entries lent for its five places; on from there; and the cut where that ends
abbrev pub carried : List ℕ
carried = transfer_marking three_places small_plan (1 ∷ 1 ∷ 3 ∷ []) (0 ∷ 2 ∷ 3 ∷ []) (9 ∷ 9 ∷ 9 ∷ 9 ∷ 9 ∷ 9 ∷ [])

abbrev pub fired_on : List ℕ
fired_on = replay_from_marking small_plan (take 5 carried) (1 ∷ 0 ∷ []) (9 ∷ 9 ∷ 9 ∷ 9 ∷ 9 ∷ [])

abbrev pub cut_on : List ℕ
cut_on = safety_file (started small_plan fired_on) (2 ∷ [])

pub record AllTheWay : Type 0 where
  pub carries : carried ≡ 1 ∷ 0 ∷ 1 ∷ 3 ∷ 0 ∷ 9 ∷ []
  pub fires : fired_on ≡ 0 ∷ 0 ∷ 1 ∷ 4 ∷ 0 ∷ []
  pub accepted : (checked_from small_plan cut_on fired_on (2 ∷ [])).code ≡ 0
  -- not from where the firings began
  pub moved_on : checked_from small_plan cut_on (take 5 carried) (2 ∷ []) ≡ record { refused = false; code = 103; number = 0 }
  -- only the first P entries of the lent list are a start
  pub all_entries : (replay_from_answer small_plan carried [] 5).refusal ≡ 22
