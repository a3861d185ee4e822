-- The starred examples of document 01 ("A small kerb"), over bytes, as one table: the plan's file, its cuts' files, replay, effect, shadow, check; and the same kerb with parallel arcs.
-- Places 0 to 4 are that section's waiting, bay free, in bay, left and bell.
use Rattle.std.specs.Prelude.{ℕ, suc, List, [], ◌∷◌, ◌++◌, ◌≡◌, true, false, ◌||◌, length, take, drop, set, pos, negsuc, eqb}
use Rattle.net.specs.declared.Arc.{Arc}
use Rattle.net.specs.Net.{Net, counted, short, full, fired, test_firing, replay, tokens}
use Rattle.net.specs.Cut.{safety, branching, kept_places, kept_transitions}
use Rattle.net.specs.Slice.{project, keeping, cut}
use Rattle.net.specs.Checker.{rule9, accepted, broken, breaker, verdict}
use Rattle.net.specs.Guarantee.{plan_tokens, slice_tokens}
use Rattle.net.specs.Together.{times, together}
use Rattle.file.specs.Layout.{net_of, slice_of}
use Rattle.file.specs.Refusal.{file_refusal}
use Rattle.file_writing.specs.Writing.{slice_bytes}
use Rattle.file_header.specs.declared.Due.TheVariants as due
use Rattle.promise.specs.Calls.{cut_of, safety_file, branching_file, safety_answer, checked, checked_bytes}
use Rattle.promise.specs.Firing.{effect_answer, replay_told, replay_answer, replay_marking, arc_run}
use Rattle.promise.specs.Shadow.{ShadowAnswer, shadow_answer, shadow_marking, shadow_output}
use Rattle.promise.specs.Together.{together_answer, together_rest}
use Rattle.promise.specs.Promise.{empty_slice}

-- "Places 0 waiting (2 tokens), 1 bay free (1), 2 in bay, 3 left, 4 bell (0 each)", the arcs of transitions 0 to 3, the trailer
unfoldable pub small_plan : List ℕ
small_plan =
    2 ∷ 0 ∷ 0 ∷ 0 ∷ 1 ∷ 0 ∷ 0 ∷ 0 ∷ 0 ∷ 0 ∷ 0 ∷ 0 ∷ 0 ∷ 0 ∷ 0 ∷ 0 ∷ 0 ∷ 0 ∷ 0 ∷ 0
    ∷ 0 ∷ 0 ∷ 0 ∷ 0 ∷ 0 ∷ 0 ∷ 1 ∷ 0
    ∷ 0 ∷ 0 ∷ 0 ∷ 0 ∷ 1 ∷ 0 ∷ 1 ∷ 0
    ∷ 0 ∷ 0 ∷ 1 ∷ 0 ∷ 2 ∷ 0 ∷ 1 ∷ 0
    ∷ 1 ∷ 0 ∷ 0 ∷ 0 ∷ 2 ∷ 0 ∷ 1 ∷ 0
    ∷ 1 ∷ 0 ∷ 1 ∷ 0 ∷ 1 ∷ 0 ∷ 1 ∷ 0
    ∷ 1 ∷ 0 ∷ 1 ∷ 0 ∷ 3 ∷ 0 ∷ 1 ∷ 0
    ∷ 2 ∷ 0 ∷ 0 ∷ 0 ∷ 3 ∷ 0 ∷ 2 ∷ 0
    ∷ 2 ∷ 0 ∷ 1 ∷ 0 ∷ 4 ∷ 0 ∷ 1 ∷ 0
    ∷ 3 ∷ 0 ∷ 0 ∷ 0 ∷ 0 ∷ 0 ∷ 1 ∷ 0
    ∷ 92 ∷ 0 ∷ 0 ∷ 0 ∷ 5 ∷ 0 ∷ 4 ∷ 0 ∷ 9 ∷ 0 ∷ 0 ∷ 1 ∷ 0x42 ∷ 0x45 ∷ 0x4C ∷ 0x4C ∷ []

-- "a plan of one place with 3 tokens", and "its safety cut for place 0"
unfoldable pub one_place_plan : List ℕ
one_place_plan = 3 ∷ 0 ∷ 0 ∷ 0 ∷ 4 ∷ 0 ∷ 0 ∷ 0 ∷ 1 ∷ 0 ∷ 0 ∷ 0 ∷ 0 ∷ 0 ∷ 0 ∷ 1 ∷ 0x42 ∷ 0x45 ∷ 0x4C ∷ 0x4C ∷ []

unfoldable pub one_place_cut : List ℕ
one_place_cut = 3 ∷ 0 ∷ 0 ∷ 0 ∷ 0 ∷ 0 ∷ 6 ∷ 0 ∷ 0 ∷ 0 ∷ 1 ∷ 0 ∷ 0 ∷ 0 ∷ 0 ∷ 0 ∷ 1 ∷ 1 ∷ 0x42 ∷ 0x45 ∷ 0x4C ∷ 0x4C ∷ []

-- a slice file: it can be read, its places and transitions by the plan's numbers, its arcs, its bytes
pub record Holds (file ps ts : List ℕ) (arcs bytes : ℕ) : Type 0 where
  pub read : file_refusal due.Slice file ≡ 0
  pub places : (slice_of file).place_origins ≡ ps
  pub transitions : (slice_of file).transition_origins ≡ ts
  pub arc_count : length (slice_of file).net.arcs ≡ arcs
  pub byte_count : length file ≡ bytes

-- a list that fires, and the six entries lent after it, the last of them being 7 before
pub record Ends (plan list entries : List ℕ) : Type 0 where
  pub answer : replay_answer plan list 6 ≡ record { refused = false; refusal = 0; stuck = false; full = false; index = 0; place = 0; amount = 0 }
  pub marking : replay_marking plan list (9 ∷ 9 ∷ 9 ∷ 9 ∷ 9 ∷ 7 ∷ []) ≡ entries

-- the starred examples
pub record Starred : Type 0 where
  pub file : (length small_plan ≡ 108) × (file_refusal due.Plan small_plan ≡ 0)
  pub fires : Ends small_plan (0 ∷ 1 ∷ 0 ∷ 1 ∷ 2 ∷ []) (0 ∷ 1 ∷ 0 ∷ 0 ∷ 1 ∷ 7 ∷ [])
  pub empty : Ends small_plan [] (2 ∷ 1 ∷ 0 ∷ 0 ∷ 0 ∷ 7 ∷ [])
  pub second_sticks : replay_answer small_plan (0 ∷ 0 ∷ []) 6 ≡ record { refused = false; refusal = 0; stuck = true; full = false; index = 1; place = 1; amount = 1 }
  pub third_sticks : replay_answer small_plan (3 ∷ 3 ∷ 0 ∷ []) 6 ≡ record { refused = false; refusal = 0; stuck = true; full = false; index = 2; place = 0; amount = 1 }
  pub takes_two : effect_answer small_plan 3 2 ≡ record { refused = false; refusal = 0; effect = negsuc 1 }
  pub no_effect : effect_answer small_plan 0 1 ≡ record { refused = false; refusal = 0; effect = pos 0 }
  pub safety_for_2 : Holds (safety_file small_plan (2 ∷ [])) (0 ∷ 1 ∷ 2 ∷ []) (0 ∷ 1 ∷ []) 5 78
  pub branching_for_2 : Holds (branching_file small_plan (2 ∷ [])) (0 ∷ 1 ∷ 2 ∷ []) (0 ∷ 1 ∷ 3 ∷ []) 6 88
  pub safety_for_3 : Holds (safety_file small_plan (3 ∷ [])) (0 ∷ 1 ∷ 2 ∷ 3 ∷ []) (0 ∷ 1 ∷ 2 ∷ []) 7 102
  pub projection : project (slice_of (safety_file small_plan (2 ∷ []))) (3 ∷ 0 ∷ 1 ∷ 2 ∷ []) ≡ 0 ∷ 1 ∷ []

-- what document 01 says without a star: the file in hexadecimal, the edges, "Errors to expect", and the calls' other answers
pub record Noted : Type 0 where
  pub one_place : safety_file one_place_plan (0 ∷ []) ≡ one_place_cut
  pub too_short : file_refusal due.Either (take 15 small_plan) ≡ 1
  pub a_plan : file_refusal due.Slice small_plan ≡ 3
  pub weightless : file_refusal due.Plan (set small_plan 26 0) ≡ 6
  pub heaviest : file_refusal due.Plan (set (set small_plan 26 255) 27 255) ≡ 0
  pub many_places : file_refusal due.Plan (set (set small_plan 96 1) 97 4) ≡ 4
  -- in(p,t) less M(p): with a weight of 5 transition 2 wants 5 tokens of place 3, which has 1; with the parallel arcs 1 and 5 transition 0 wants 6 of place 0, which has 2
  pub four_missing : (replay_answer (set small_plan 74 5) (0 ∷ 1 ∷ 2 ∷ []) 6).amount ≡ 4
  pub four_of_a_sum : (replay_answer (set (set small_plan 32 0) 34 5) (0 ∷ []) 6).amount ≡ 4
  pub none_missing : (replay_answer small_plan (0 ∷ []) 6).amount ≡ 0
  pub no_place : effect_answer small_plan 5 9 ≡ record { refused = true; refusal = 10; effect = pos 0 }
  pub no_transition : effect_answer small_plan 4 4 ≡ record { refused = true; refusal = 12; effect = pos 0 }
  pub little_room : replay_answer small_plan [] 4 ≡ record { refused = true; refusal = 13; stuck = false; full = false; index = 0; place = 0; amount = 0 }
  pub cut_counts : safety_answer small_plan (2 ∷ []) 78 ≡ record { refused = false; refusal = 0; length = 78; places = 3; transitions = 2 }
  pub cut_no_room : safety_answer small_plan (2 ∷ []) 77 ≡ record { refused = true; refusal = 13; length = 0; places = 0; transitions = 0 }
  pub not_rising : checked small_plan (safety_file small_plan (2 ∷ [])) (2 ∷ 2 ∷ []) ≡ record { refused = true; code = 10; number = 0 }
  pub own_cut : checked small_plan (safety_file small_plan (2 ∷ [])) (2 ∷ []) ≡ record { refused = false; code = 0; number = 0 }
  pub own_branching_cut : checked small_plan (branching_file small_plan (2 ∷ [])) (2 ∷ []) ≡ record { refused = false; code = 0; number = 0 }
  pub too_small : checked small_plan (safety_file small_plan (2 ∷ [])) (2 ∷ 3 ∷ []) ≡ record { refused = false; code = 105; number = 3 }
  pub in_bytes : checked_bytes small_plan (safety_file small_plan (2 ∷ [])) (2 ∷ 0 ∷ 3 ∷ 0 ∷ []) ≡ 105
  pub odd_bytes : checked_bytes small_plan (safety_file small_plan (2 ∷ [])) (2 ∷ 0 ∷ 3 ∷ []) ≡ 9
  pub run : arc_run small_plan (safety_file small_plan (2 ∷ [])) false 2 ≡ 2 ∷ 0 ∷ 0 ∷ 0 ∷ 3 ∷ 0 ∷ 2 ∷ 0 ∷ 2 ∷ 0 ∷ 1 ∷ 0 ∷ 4 ∷ 0 ∷ 1 ∷ 0 ∷ []
  pub no_run : arc_run small_plan (safety_file small_plan (2 ∷ [])) true 2 ≡ []
  -- "after 3,0,1 waiting is 0 in the plan; after its projection 0,1 it is 1 in the safety cut for {2}"
  pub tokens_in_plan : plan_tokens (net_of small_plan) (3 ∷ 0 ∷ 1 ∷ []) 0 ≡ 0
  pub tokens_in_slice : slice_tokens (slice_of (safety_file small_plan (2 ∷ []))) (0 ∷ 1 ∷ []) 0 ≡ 1
  -- the branching cut keeps transition 3, and there place 0 has the plan's tokens (document 02, A8)
  pub tokens_in_branching : slice_tokens (slice_of (branching_file small_plan (2 ∷ []))) (3 ∷ 0 ∷ 1 ∷ []) 0 ≡ 0

-- the answer, six entries of a marking and three of an output list after a run on the small plan and its shadow in the cut for place 2; before it the entries lent are 9, the last ones 7
pub record Writes (list : List ℕ) (a : ShadowAnswer) (m out : List ℕ) : Type 0 where
  pub answer : shadow_answer small_plan (safety_file small_plan (2 ∷ [])) list 6 3 ≡ a
  pub marking : shadow_marking small_plan (safety_file small_plan (2 ∷ [])) list (9 ∷ 9 ∷ 9 ∷ 9 ∷ 9 ∷ 7 ∷ []) (9 ∷ 9 ∷ 7 ∷ []) ≡ m
  pub output : shadow_output small_plan (safety_file small_plan (2 ∷ [])) list (9 ∷ 9 ∷ 9 ∷ 9 ∷ 9 ∷ 7 ∷ []) (9 ∷ 9 ∷ 7 ∷ []) ≡ out

-- the numbers of a list that fires, of one that is stuck, and of a refusal
abbrev pub firing : ℕ → ShadowAnswer
firing n = record { run = replay_told fired; count = n }

abbrev pub stuck : ℕ → ℕ → ℕ → ℕ → ShadowAnswer
stuck i p m n = record { run = replay_told (short i p m); count = n }

abbrev pub turned_back : ℕ → ShadowAnswer
turned_back n = record { run = record { refused = true; refusal = n; stuck = false; full = false; index = 0; place = 0; amount = 0 }; count = 0 }

-- a run and its shadow (document 02, A5)
pub record Followed : Type 0 where
  pub fires : Writes (3 ∷ 0 ∷ 1 ∷ []) (firing 2) (0 ∷ 1 ∷ 0 ∷ 1 ∷ 0 ∷ 7 ∷ []) (0 ∷ 1 ∷ 7 ∷ [])
  -- "When stuck, the output holds the projection of the firings before that index": transition 2 wants 2 tokens of place 3, which has 1
  pub sticks : Writes (3 ∷ 0 ∷ 1 ∷ 2 ∷ []) (stuck 3 3 1 2) (0 ∷ 1 ∷ 0 ∷ 1 ∷ 0 ∷ 7 ∷ []) (0 ∷ 1 ∷ 7 ∷ [])
  -- the stuck firing is not in it, though the slice has that transition, nor is what comes after; "which need only hold the fired part's projection": the list has four of the slice's
  pub sticks_early : Writes (0 ∷ 0 ∷ 1 ∷ 1 ∷ []) (stuck 1 1 1 1) (1 ∷ 0 ∷ 1 ∷ 0 ∷ 0 ∷ 7 ∷ []) (0 ∷ 9 ∷ 7 ∷ [])
  pub empty : Writes [] (firing 0) (2 ∷ 1 ∷ 0 ∷ 0 ∷ 0 ∷ 7 ∷ []) (9 ∷ 9 ∷ 7 ∷ [])
  pub exact_room : shadow_answer small_plan (safety_file small_plan (2 ∷ [])) (3 ∷ 0 ∷ 1 ∷ []) 5 2 ≡ firing 2
  -- "13 is met first for the marking, then for the output list": either way both keep every entry
  pub no_room : shadow_answer small_plan (safety_file small_plan (2 ∷ [])) (3 ∷ 0 ∷ 1 ∷ []) 5 1 ≡ turned_back 13
  pub marking_kept : shadow_marking small_plan (safety_file small_plan (2 ∷ [])) (3 ∷ 0 ∷ 1 ∷ []) (9 ∷ 9 ∷ 9 ∷ 9 ∷ 9 ∷ []) (7 ∷ []) ≡ 9 ∷ 9 ∷ 9 ∷ 9 ∷ 9 ∷ []
  pub output_kept : shadow_output small_plan (safety_file small_plan (2 ∷ [])) (3 ∷ 0 ∷ 1 ∷ []) (9 ∷ 9 ∷ 9 ∷ 9 ∷ []) (7 ∷ 7 ∷ []) ≡ 7 ∷ 7 ∷ []
  -- plan, slice, list, marking
  pub no_plan : shadow_answer one_place_cut small_plan (4 ∷ []) 0 0 ≡ turned_back 3
  pub no_slice : shadow_answer small_plan small_plan (4 ∷ []) 0 0 ≡ turned_back 3
  pub unknown : shadow_answer small_plan (safety_file small_plan (2 ∷ [])) (4 ∷ []) 0 0 ≡ turned_back 12
  pub no_marking : shadow_answer small_plan (safety_file small_plan (2 ∷ [])) (3 ∷ []) 4 0 ≡ turned_back 13

-- an empty criterion (document 02, A7)
pub record ForNoPlace : Type 0 where
  -- "the slice with no places and no transitions, from both cuts, 16 bytes long"; with 15 bytes lent, 13
  pub safety_cut : safety_file small_plan [] ≡ empty_slice 1
  pub branching_cut_row : branching_file small_plan [] ≡ empty_slice 1
  pub answer : safety_answer small_plan [] 16 ≡ record { refused = false; refusal = 0; length = 16; places = 0; transitions = 0 }
  pub no_room : safety_answer small_plan [] 15 ≡ record { refused = true; refusal = 13; length = 0; places = 0; transitions = 0 }
  -- accepted for no place, by no bytes too, and not for place 2; "9 now only for an odd byte count"
  pub its_own : checked small_plan (empty_slice 1) [] ≡ record { refused = false; code = 0; number = 0 }
  pub no_bytes : checked_bytes small_plan (empty_slice 1) [] ≡ 0
  pub one_byte : checked_bytes small_plan (empty_slice 1) (0 ∷ []) ≡ 9
  pub another : checked small_plan (empty_slice 1) (2 ∷ []) ≡ record { refused = false; code = 105; number = 2 }
  -- "4 lets an empty slice pass, an empty plan not"; a slice is no plan still
  pub passes : (file_refusal due.Slice (empty_slice 1) ≡ 0) × (file_refusal due.Either (empty_slice 1) ≡ 0)
  pub empty_plan : (file_refusal due.Plan (set (empty_slice 1) 10 0) ≡ 4) × (file_refusal due.Either (set (empty_slice 1) 10 0) ≡ 4)
  pub no_plan : file_refusal due.Plan (empty_slice 1) ≡ 3
  -- replayed, asked for an effect and for arcs, followed in
  pub fires : replay_answer (empty_slice 1) [] 0 ≡ record { refused = false; refusal = 0; stuck = false; full = false; index = 0; place = 0; amount = 0 }
  pub no_number : (replay_answer (empty_slice 1) (0 ∷ []) 0).refusal ≡ 12
  pub no_effect : effect_answer (empty_slice 1) 0 0 ≡ record { refused = true; refusal = 10; effect = pos 0 }
  pub no_run : arc_run small_plan (empty_slice 1) true 0 ≡ []
  pub no_shadow : shadow_answer small_plan (empty_slice 1) (0 ∷ 3 ∷ []) 5 0 ≡ firing 0
  -- a larger slice may be accepted for no place, but rules 1 to 4, 7 and 8 bind: place 0 has 2 tokens and not 3; transition 0 takes from place 0; it raises place 2
  pub larger : (checked small_plan (safety_file small_plan (2 ∷ [])) []).code ≡ 0
  pub other_marking : checked small_plan one_place_cut [] ≡ record { refused = false; code = 103; number = 0 }
  pub no_input : checked small_plan (slice_bytes 1 (keeping (net_of small_plan) [] (0 ∷ []))) [] ≡ record { refused = false; code = 107; number = 0 }
  pub no_raiser : checked small_plan (slice_bytes 1 (keeping (net_of small_plan) (2 ∷ []) [])) [] ≡ record { refused = false; code = 108; number = 0 }
  -- rule 6 is about Q alone: transition 0 lowers place 0, and none raises it
  pub may_lower : (checked small_plan (slice_bytes 1 (keeping (net_of small_plan) (0 ∷ []) [])) []).code ≡ 0
  pub no_changer : checked small_plan (slice_bytes 1 (keeping (net_of small_plan) (0 ∷ []) [])) (0 ∷ []) ≡ record { refused = false; code = 106; number = 0 }

-- the small plan with the input of transition 2 as two arcs of weight 1: body length 100, 10 arcs
unfoldable pub parallel_plan : List ℕ
parallel_plan = set (set (set (take 76 small_plan) 74 1 ++ 2 ∷ 0 ∷ 0 ∷ 0 ∷ 3 ∷ 0 ∷ 1 ∷ 0 ∷ drop 76 small_plan) 100 100) 108 10

-- "equal neighbours are allowed", "sums over all such arcs", "Rule 4 compares arc runs with repeats, in order", "7 now means below the arc before"
pub record Parallels : Type 0 where
  pub file : (length parallel_plan ≡ 116) × (file_refusal due.Plan parallel_plan ≡ 0)
  pub takes_two : effect_answer parallel_plan 3 2 ≡ record { refused = false; refusal = 0; effect = negsuc 1 }
  pub fires : Ends parallel_plan (0 ∷ 1 ∷ 0 ∷ 1 ∷ 2 ∷ []) (0 ∷ 1 ∷ 0 ∷ 0 ∷ 1 ∷ 7 ∷ [])
  pub sticks : replay_answer parallel_plan (0 ∷ 1 ∷ 2 ∷ []) 6 ≡ record { refused = false; refusal = 0; stuck = true; full = false; index = 2; place = 3; amount = 1 }
  pub run : arc_run parallel_plan one_place_cut false 2 ≡ 2 ∷ 0 ∷ 0 ∷ 0 ∷ 3 ∷ 0 ∷ 1 ∷ 0 ∷ 2 ∷ 0 ∷ 0 ∷ 0 ∷ 3 ∷ 0 ∷ 1 ∷ 0 ∷ 2 ∷ 0 ∷ 1 ∷ 0 ∷ 4 ∷ 0 ∷ 1 ∷ 0 ∷ []
  pub safety_for_3 : Holds (safety_file parallel_plan (3 ∷ [])) (0 ∷ 1 ∷ 2 ∷ 3 ∷ []) (0 ∷ 1 ∷ 2 ∷ []) 8 110
  pub joined : checked parallel_plan (safety_file small_plan (3 ∷ [])) (3 ∷ []) ≡ record { refused = false; code = 104; number = 2 }
  pub falling : file_refusal due.Plan (set small_plan 24 2) ≡ 7

-- a transition's inputs taken k times from a marking, and the six entries lent after it, the last of them being 7 before
pub record Leaves (plan : List ℕ) (t : ℕ) (marking : List ℕ) (k : ℕ) (entries : List ℕ) : Type 0 where
  pub answer : together_answer plan t marking 6 ≡ record { refused = false; refusal = 0; unlimited = false; times = k }
  pub rest : together_rest plan t marking (9 ∷ 9 ∷ 9 ∷ 9 ∷ 9 ∷ 7 ∷ []) ≡ entries

-- "Buses let through together" (document 02, A6)
pub record TakenTogether : Type 0 where
  -- transition 0 takes one of place 0 and one of place 1; transition 2 takes two of place 3, by one arc or by two
  pub fewest : Leaves small_plan 0 (5 ∷ 3 ∷ 0 ∷ 0 ∷ 0 ∷ []) 3 (2 ∷ 0 ∷ 0 ∷ 0 ∷ 0 ∷ 7 ∷ [])
  pub first_fewest : Leaves small_plan 0 (2 ∷ 4 ∷ 6 ∷ 8 ∷ 1 ∷ []) 2 (0 ∷ 2 ∷ 6 ∷ 8 ∷ 1 ∷ 7 ∷ [])
  pub rounded_down : Leaves small_plan 2 (0 ∷ 0 ∷ 0 ∷ 5 ∷ 0 ∷ []) 2 (0 ∷ 0 ∷ 0 ∷ 1 ∷ 0 ∷ 7 ∷ [])
  pub of_a_sum : Leaves parallel_plan 2 (0 ∷ 0 ∷ 0 ∷ 5 ∷ 0 ∷ []) 2 (0 ∷ 0 ∷ 0 ∷ 1 ∷ 0 ∷ 7 ∷ [])
  pub not_once : Leaves small_plan 2 (0 ∷ 0 ∷ 0 ∷ 1 ∷ 0 ∷ []) 0 (0 ∷ 0 ∷ 0 ∷ 1 ∷ 0 ∷ 7 ∷ [])
  -- "The marking has 64-bit entries"
  pub most : Leaves small_plan 3 (18446744073709551615 ∷ 1 ∷ 0 ∷ 0 ∷ 0 ∷ []) 18446744073709551615 (0 ∷ 1 ∷ 0 ∷ 0 ∷ 0 ∷ 7 ∷ [])
  -- "A transition with no inputs": transition 3 gives to place 0 where the direction of its arc is 1
  pub no_inputs : together_answer (set small_plan 86 1) 3 (2 ∷ 1 ∷ 0 ∷ 5 ∷ 0 ∷ []) 5 ≡ record { refused = false; refusal = 0; unlimited = true; times = 0 }
  pub same : together_rest (set small_plan 86 1) 3 (2 ∷ 1 ∷ 0 ∷ 5 ∷ 0 ∷ []) (9 ∷ 9 ∷ 9 ∷ 9 ∷ 9 ∷ 7 ∷ []) ≡ 2 ∷ 1 ∷ 0 ∷ 5 ∷ 0 ∷ 7 ∷ []
  -- the plan, then 12; "15: .. after the transition number, before the buffer", also for a longer marking; 13
  pub no_plan : together_answer (empty_slice 1) 9 [] 0 ≡ record { refused = true; refusal = 3; unlimited = false; times = 0 }
  pub no_transition : together_answer small_plan 4 [] 0 ≡ record { refused = true; refusal = 12; unlimited = false; times = 0 }
  pub four_entries : together_answer small_plan 3 (2 ∷ 1 ∷ 0 ∷ 0 ∷ []) 0 ≡ record { refused = true; refusal = 15; unlimited = false; times = 0 }
  pub six_entries : together_answer small_plan 3 (2 ∷ 1 ∷ 0 ∷ 0 ∷ 0 ∷ 0 ∷ []) 6 ≡ record { refused = true; refusal = 15; unlimited = false; times = 0 }
  pub little_room : together_answer small_plan 3 (2 ∷ 1 ∷ 0 ∷ 0 ∷ 0 ∷ []) 4 ≡ record { refused = true; refusal = 13; unlimited = false; times = 0 }
  pub kept : together_rest small_plan 3 (2 ∷ 1 ∷ 0 ∷ 0 ∷ 0 ∷ []) (9 ∷ 8 ∷ []) ≡ 9 ∷ 8 ∷ []

-- the small plan's net with caps, as files of edition 2 have them
unfoldable pub with_caps : (ℕ → ℕ) → Net
with_caps caps =
    let N = net_of small_plan in
    record { places = N.places; transitions = N.transitions; marking = N.marking; cap = caps; arcs = N.arcs }

-- a cap of 1 on place 3
unfoldable pub one_cap : Net
one_cap = with_caps (λ p. counted (eqb p 3) 1)

-- and on place 1
unfoldable pub two_caps : Net
two_caps = with_caps (λ p. counted (eqb p 1 || eqb p 3) 1)

-- one place, 2 tokens, a cap of 2: transition 0 takes 2 and gives 2 back, transition 1 takes 1 and gives 3
unfoldable pub loop_net : Net
loop_net =
    let arc : ℕ → ℕ → ℕ → Arc = λ t d w. record { transition = t; direction = d; place = 0; weight = w } in
    record { places = 1; transitions = 2; marking = λ p. 2; cap = λ p. 2; arcs = arc 0 0 2 ∷ arc 0 1 2 ∷ arc 1 0 1 ∷ arc 1 1 3 ∷ [] }

-- place 1 has 2 tokens and a cap of 1, as no file that is read (refusal 16); transition 0 takes the token of place 0
unfoldable pub over_net : Net
over_net = record { places = 2; transitions = 1; marking = λ p. suc p; cap = λ p. p; arcs = record { transition = 0; direction = 0; place = 0; weight = 1 } ∷ [] }

-- what caps change (document 02, A9)
pub record Capped : Type 0 where
  -- "full with the lowest such place and, instead of the shortage, the excess over its cap"; the marking is the one before
  pub fourth_full : (replay one_cap (0 ∷ 1 ∷ 0 ∷ 1 ∷ [])).answer ≡ full 3 3 1
  pub before : tokens one_cap (replay one_cap (0 ∷ 1 ∷ 0 ∷ 1 ∷ [])).marking ≡ 0 ∷ 0 ∷ 1 ∷ 1 ∷ 0 ∷ []
  -- places 1 and 3 would both be full, of 2 and 4 tokens
  pub lowest_full : test_firing two_caps 1 (λ p. p) ≡ full 1 1
  -- "after the input test": place 2 is short, and places 1 and 3 would be full
  pub short_first : (replay two_caps (0 ∷ 1 ∷ 1 ∷ [])).answer ≡ short 2 2 1
  -- "M(p) plus effect": a full place may be taken from and refilled; 2 - 1 + 3 is 2 over
  pub refilled : (replay loop_net (0 ∷ 0 ∷ [])).answer ≡ fired
  pub overfilled : (replay loop_net (0 ∷ 1 ∷ [])).answer ≡ full 1 0 2
  -- "Both cuts also keep capped places with out above 0 from a kept transition, and every transition that changes a kept capped place"
  pub safety_places : kept_places (safety one_cap (2 ∷ [])) ≡ 0 ∷ 1 ∷ 2 ∷ 3 ∷ []
  pub safety_transitions : kept_transitions (safety one_cap (2 ∷ [])) ≡ 0 ∷ 1 ∷ 2 ∷ []
  pub branching_places : kept_places (branching one_cap (2 ∷ [])) ≡ 0 ∷ 1 ∷ 2 ∷ 3 ∷ []
  pub branching_transitions : kept_transitions (branching one_cap (2 ∷ [])) ≡ 0 ∷ 1 ∷ 2 ∷ 3 ∷ []
  pub own_cut : verdict one_cap (cut one_cap (safety one_cap (2 ∷ []))) (2 ∷ []) ≡ accepted
  pub own_branching_cut : verdict one_cap (cut one_cap (branching one_cap (2 ∷ []))) (2 ∷ []) ≡ accepted
  -- 103: "Rule 3 compares caps too"
  pub no_cap : verdict one_cap (cut_of safety small_plan (3 ∷ [])) (2 ∷ []) ≡ broken 3 3
  pub other_cap : verdict one_cap (keeping (with_caps (λ p. counted (eqb p 3) 2)) (0 ∷ 1 ∷ 2 ∷ 3 ∷ []) (0 ∷ 1 ∷ 2 ∷ [])) (2 ∷ []) ≡ broken 3 3
  -- 109 and 110, "each naming the lowest transition that breaks it"; rule 9 goes by out, also where the effect is 0
  pub no_output : verdict one_cap (cut_of safety small_plan (2 ∷ [])) (2 ∷ []) ≡ broken 9 1
  pub output_by_out : breaker (rule9 loop_net (keeping loop_net [] (0 ∷ 1 ∷ []))) ≡ 0
  pub no_changer : verdict one_cap (keeping one_cap (0 ∷ 1 ∷ 2 ∷ 3 ∷ []) (0 ∷ 1 ∷ [])) (2 ∷ []) ≡ broken 10 2
  pub no_changer_of_two : verdict (with_caps (λ p. 2)) (keeping (with_caps (λ p. 2)) (0 ∷ []) []) [] ≡ broken 10 0
  -- the guarantee wants a marking within the caps: without that, a list fires in an accepted slice and not in the plan
  pub over_accepted : verdict over_net (cut over_net (safety over_net (0 ∷ []))) (0 ∷ []) ≡ accepted
  pub over_in_slice : (replay (cut over_net (safety over_net (0 ∷ []))).net (0 ∷ [])).answer ≡ fired
  pub over_in_plan : (replay over_net (0 ∷ [])).answer ≡ full 0 1 1
  -- "A6 still counts inputs alone": place 3 holds 9 tokens of 1, and loses 8
  pub caps_aside : together one_cap 2 (λ p. 9) ≡ times 4
