-- Rows for markings known within a range (document 02, A11), worked out by hand, on the small plan of document 01.
use Rattle.std.specs.Prelude.{ℕ, Bool, true, false, List, [], ◌∷◌, ◌≡◌, length, set, ltb}
use Rattle.promise.specs.Range.{range_answer, range_need}
use Rattle.promise.specs.Example.{small_plan, parallel_plan}
use Rattle.promise.specs.FullExample.{full_plan, zero_plan}

-- five entries of 9 and one of 7 are lent: the answer, "from every marking in the range, from some but not all, or from none", and the entries after it
pub record Ranged (plan list upper : List ℕ) (all some none : Bool) (entries : List ℕ) : Type 0 where
  pub answer : range_answer plan list upper 6 ≡ record { refused = false; refusal = 0; every = all; partly = some; never = none }
  pub need : range_need plan list upper (9 ∷ 9 ∷ 9 ∷ 9 ∷ 9 ∷ 7 ∷ []) ≡ entries

-- "A refusal returns its number with zeros elsewhere"; the lent entries are kept
pub record Refuses (plan list upper lent : List ℕ) (n : ℕ) : Type 0 where
  pub answer : range_answer plan list upper (length lent) ≡ record { refused = true; refusal = n; every = false; partly = false; never = false }
  pub kept : range_need plan list upper lent ≡ lent

pub record RangeRows : Type 0 where
  -- the starred list needs the plan's own marking, so every marking from there on fires it
  pub starred : Ranged small_plan (0 ∷ 1 ∷ 0 ∷ 1 ∷ 2 ∷ []) (2 ∷ 1 ∷ 0 ∷ 0 ∷ 0 ∷ []) true false false (2 ∷ 1 ∷ 0 ∷ 0 ∷ 0 ∷ 7 ∷ [])
  pub wide : Ranged small_plan (0 ∷ 1 ∷ 0 ∷ 1 ∷ 2 ∷ []) (4294967295 ∷ 4294967295 ∷ 4294967295 ∷ 4294967295 ∷ 4294967295 ∷ []) true false false (2 ∷ 1 ∷ 0 ∷ 0 ∷ 0 ∷ 7 ∷ [])
  pub less : Ranged small_plan (3 ∷ 0 ∷ []) (2 ∷ 1 ∷ 0 ∷ 0 ∷ 0 ∷ []) true false false (2 ∷ 1 ∷ 0 ∷ 0 ∷ 0 ∷ 7 ∷ [])
  pub no_firing : Ranged small_plan [] (2 ∷ 1 ∷ 0 ∷ 0 ∷ 0 ∷ []) true false false (0 ∷ 0 ∷ 0 ∷ 0 ∷ 0 ∷ 7 ∷ [])
  -- "from some but not all": a third token on place 0 is wanted
  pub third : Ranged small_plan (0 ∷ 1 ∷ 0 ∷ 1 ∷ 0 ∷ []) (3 ∷ 1 ∷ 0 ∷ 0 ∷ 0 ∷ []) false true false (3 ∷ 1 ∷ 0 ∷ 0 ∷ 0 ∷ 7 ∷ [])
  -- "or from none": two tokens on place 3, of at most one; and where the range is the plan's marking alone
  pub two_wanted : Ranged small_plan (2 ∷ []) (2 ∷ 1 ∷ 0 ∷ 1 ∷ 0 ∷ []) false false true (0 ∷ 0 ∷ 0 ∷ 2 ∷ 0 ∷ 7 ∷ [])
  pub one_marking : Ranged small_plan (0 ∷ 0 ∷ []) (2 ∷ 1 ∷ 0 ∷ 0 ∷ 0 ∷ []) false false true (2 ∷ 2 ∷ 0 ∷ 0 ∷ 0 ∷ 7 ∷ [])
  -- what a firing gives is there for later ones: transition 1 gives one token of the two that transition 2 takes of place 3
  pub given_first : Ranged small_plan (1 ∷ 2 ∷ 0 ∷ []) (2 ∷ 1 ∷ 1 ∷ 1 ∷ 0 ∷ []) false true false (1 ∷ 0 ∷ 1 ∷ 1 ∷ 0 ∷ 7 ∷ [])
  -- and for no earlier one: transition 1 gives a token of place 1, after transition 0 took one
  pub given_later : Ranged small_plan (0 ∷ 1 ∷ []) (2 ∷ 1 ∷ 0 ∷ 0 ∷ 0 ∷ []) true false false (1 ∷ 1 ∷ 0 ∷ 0 ∷ 0 ∷ 7 ∷ [])
  -- nor for itself: here transition 0 takes a token of place 1 and gives it back
  pub given_back : Ranged (set small_plan 40 1) (0 ∷ 0 ∷ []) (2 ∷ 1 ∷ 0 ∷ 0 ∷ 0 ∷ []) true false false (2 ∷ 1 ∷ 0 ∷ 0 ∷ 0 ∷ 7 ∷ [])
  -- "in and out are sums": two arcs take two tokens of place 3
  pub of_a_sum : Ranged parallel_plan (0 ∷ 1 ∷ 2 ∷ []) (2 ∷ 1 ∷ 0 ∷ 1 ∷ 0 ∷ []) false true false (1 ∷ 1 ∷ 0 ∷ 1 ∷ 0 ∷ 7 ∷ [])
  -- a cap of 0 is none
  pub no_caps : Ranged zero_plan (0 ∷ 1 ∷ 0 ∷ 1 ∷ 0 ∷ []) (3 ∷ 1 ∷ 0 ∷ 0 ∷ 0 ∷ []) false true false (3 ∷ 1 ∷ 0 ∷ 0 ∷ 0 ∷ 7 ∷ [])
  -- room for five entries is enough
  pub just_room : (range_answer small_plan [] (2 ∷ 1 ∷ 0 ∷ 0 ∷ 0 ∷ []) 5).refused ≡ false
  -- each refusal comes before all later ones, whatever else is lent: the plan (the file of a plan with a cap, told to be a slice)
  pub no_plan : (list upper lent : List ℕ) → Refuses (set full_plan 122 1) list upper lent 3
  -- 17
  pub capped : (list upper lent : List ℕ) → Refuses full_plan list upper lent 17
  -- 11, whether or not each firing is of a transition
  pub long : (list upper lent : List ℕ) → ltb 65535 (length list) ≡ true → Refuses small_plan list upper lent 11
  -- 12
  pub unknown : (upper lent : List ℕ) → Refuses small_plan (0 ∷ 4 ∷ []) upper lent 12
  -- 21, "not P long", "or has an entry below the plan's", "after the list"
  pub four_entries : (lent : List ℕ) → Refuses small_plan (0 ∷ []) (2 ∷ 1 ∷ 0 ∷ 0 ∷ []) lent 21
  pub six_entries : (lent : List ℕ) → Refuses small_plan (0 ∷ []) (2 ∷ 1 ∷ 0 ∷ 0 ∷ 0 ∷ 0 ∷ []) lent 21
  pub below_the_plan : (lent : List ℕ) → Refuses small_plan (0 ∷ []) (2 ∷ 0 ∷ 5 ∷ 5 ∷ 5 ∷ []) lent 21
  -- 13
  pub little_room : Refuses small_plan (0 ∷ []) (2 ∷ 1 ∷ 0 ∷ 0 ∷ 0 ∷ []) (9 ∷ 9 ∷ 9 ∷ 9 ∷ []) 13
