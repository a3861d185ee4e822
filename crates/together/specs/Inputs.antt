-- The input arcs of a transition: what they take from each place, once and k times.
use Rattle.std.specs.Prelude.{ℕ, suc, ◌+◌, ◌-◌, ◌*◌, ◌≤◌, ◌<◌, List, ◌≡◌, length, get_or}
use Rattle.file.specs.Facts.{Sound}
use Rattle.file_header.specs.declared.Header.{Header}
use Rattle.arcs_column.specs.Gain.{sum_to, Run}
use Rattle.arcs_column.specs.Ways.{place_at, transition_at, direction_at}
use Rattle.arcs_groups.specs.Groups.{weight_at}

-- what the arcs from..to take from p
abbrev pub drawn : List ℕ → ℕ → ℕ → ℕ → ℕ → ℕ
drawn s start from to p = sum_to s start p to - sum_to s start p from

-- the arcs from..to are of one transition and one direction, at places below P that do not fall, and each has a weight
pub record OneWay (s : List ℕ) (start from to P : ℕ) : Type 0 where
  pub run : Run s start from to P
  pub few : to ≤ 4096
  pub transitions : (i : ℕ) → from ≤ i → i < to → transition_at s start i ≡ transition_at s start from
  pub directions : (i : ℕ) → from ≤ i → i < to → direction_at s start i ≡ direction_at s start from
  pub order : (i j : ℕ) → from ≤ i → i ≤ j → j < to → place_at s start i ≤ place_at s start j
  pub weights : (i : ℕ) → from ≤ i → i < to → 1 ≤ weight_at s start i

-- m has k times what the arcs from..to take, and on some place not one time more
pub record MostTimes (s : List ℕ) (start from to : ℕ) (m : List ℕ) (k : ℕ) : Type 0 where
  pub fits : (p : ℕ) → k * drawn s start from to p ≤ get_or m p 0
  pub no_more : (p : ℕ) × (p < length m) × (get_or m p 0 < suc k * drawn s start from to p)

-- k times what the arcs from..to take is gone
pub record TakesTimes (s : List ℕ) (start from to k : ℕ) (was is : List ℕ) : Type 0 where
  pub long : length is ≡ length was
  pub at : (p : ℕ) → get_or is p 0 + k * drawn s start from to p ≡ get_or was p 0

-- the file was read, t is one of its transitions, and both lists have an entry for each place
pub record Passed (s : List ℕ) (h : Header) (t : ℕ) (marking rest : List ℕ) : Type 0 where
  pub sound : Sound s h
  pub known : t < h.transitions
  pub entries : length marking ≡ h.places
  pub room : length rest ≡ h.places
