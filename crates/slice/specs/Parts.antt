-- What the parts of the writer know of each other: for its own functions, not for a reader of its contract.
use Rattle.std.specs.Prelude.{ℕ, ◌≤◌, ◌<◌, true, List, ◌≡◌, length, get_or, take}
use Rattle.net.specs.Numbers.{Rising, selected}
use Rattle.file_header.specs.declared.Header.{Header}
use Rattle.numbering.specs.Own.{Own}
use Rattle.sets.specs.Member.{member}

-- the members of a set are below n, and the list has room for them
pub record Listable (words : List ℕ) (n : ℕ) (list : List ℕ) : Type 0 where
  pub few : n ≤ 1024
  pub within : (x : ℕ) → member words x ≡ true → x < n
  pub room : n ≤ length list

-- the first r entries of the list are the members below n, rising
pub record MembersListed (words : List ℕ) (n : ℕ) (list : List ℕ) (r : ℕ) : Type 0 where
  pub within : r ≤ length list
  pub members : take r list ≡ selected (member words) 0 n

-- rising lists of the plan's places and transitions
pub record Lists (h : Header) (ps ts : List ℕ) : Type 0 where
  pub few_places : length ps ≤ 1024
  pub few_transitions : length ts ≤ 1024
  pub places_rise : Rising ps
  pub transitions_rise : Rising ts
  pub places_known : (i : ℕ) → i < length ps → get_or ps i 0 < h.places
  pub transitions_known : (i : ℕ) → i < length ts → get_or ts i 0 < h.transitions

-- a table of zeros that reaches the numbers below n
pub record Cleared (n : ℕ) (table : List ℕ) : Type 0 where
  pub reach : n ≤ length table
  pub clear : (x : ℕ) → get_or table x 0 ≡ 0

-- the tables of the new numbers of places and transitions
pub record Tables (h : Header) (ps ts places transitions : List ℕ) : Type 0 where
  pub places_reach : h.places ≤ length places
  pub transitions_reach : h.transitions ≤ length transitions
  pub places_own : Own ps places
  pub transitions_own : Own ts transitions
