-- What a step does to the kept places and to the marks, one bit for each of sixteen words.
use Rattle.std.specs.Prelude.{ℕ, ◌/◌, ◌<◌, Bool, not, ◌&&◌, ◌||◌, List, Option, ◌≡◌, T, length}
use Rattle.sets.specs.Member.{bit, member}
use Rattle.sets.specs.Lowest.{IsLowest}

-- "A kept place is pending until its transitions have been gone through": k is kept, and not among those gone through
abbrev pub waits : List ℕ → (ℕ → Bool) → ℕ → Bool
waits places gone k = member places k && not (gone k)

-- only words of the sixteen are marked, and every word that has a pending place is
pub record Marked (places : List ℕ) (gone : ℕ → Bool) (marks : ℕ) : Type 0 where
  pub words : (i : ℕ) → T (bit marks i) → i < 16
  pub marked : (k : ℕ) → T (waits places gone k) → T (bit marks (k / 64))

-- only words of the sixteen are marked, and every word that has a number below n is
pub record MarksBelow (n marks : ℕ) : Type 0 where
  pub words : (i : ℕ) → T (bit marks i) → i < 16
  pub marked : (k : ℕ) → k < n → T (bit marks (k / 64))

-- the places `new` are kept, and their words are marked
pub record PlacesKept (new : ℕ → Bool) (marks marks' : ℕ) (places places' : List ℕ) : Type 0 where
  pub kept : (k : ℕ) → member places' k ≡ member places k || new k
  pub long : length places' ≡ 16
  pub marked : (gone : ℕ → Bool) → Marked places gone marks → Marked places' gone marks'

-- r is the lowest pending place, and what is marked now is right too
pub record LowestPending (places gone : List ℕ) (marks' : ℕ) (r : Option ℕ) : Type 0 where
  pub lowest : IsLowest 1024 (waits places (member gone)) r
  pub marked : Marked places (member gone) marks'
