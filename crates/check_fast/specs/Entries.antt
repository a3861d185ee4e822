-- Two tables that turn a plan's arc into the slice's by a sum, and tell what is left out, what is in the criterion and what is capped.
use Rattle.std.specs.Prelude.{ℕ, ◌+◌, ◌-◌, ◌*◌, ◌/◌, ◌≤◌, ◌<◌, Bool, true, false, List, ◌≡◌, eqb, length, get_or}
use Rattle.net.specs.Numbers.{among, position}
use Rattle.net.specs.Net.{Net}

-- what stands for a place that is left out, for one that has a cap, and for a transition
abbrev pub left_place : ℕ
left_place = 4398047494144

abbrev pub left_capped : ℕ
left_capped = 4398047428608

abbrev pub left_transition : ℕ
left_transition = 459776

-- the entry of x in units: 1024 and what takes x to its own number; `rest` where x is left out
unfoldable pub numbered : ℕ → List ℕ → ℕ → ℕ → ℕ
numbered unit os rest x = elim (among x os) [ true ↦ unit * (1024 + position x os - x) | false ↦ rest ]

-- the table after has those entries, over those before
pub record Numbered (unit : ℕ) (os before after : List ℕ) : Type 0 where
  pub long : length after ≡ length before
  pub at : (x : ℕ) → x < length before → get_or after x 0 ≡ numbered unit os (get_or before x 0) x

-- an entry with the criterion's mark
abbrev pub flagged : ℕ → ℕ
flagged v = v / 262144 * 262144 + 131072

-- the entry v of x, with the mark where x is in the criterion
unfoldable pub marked : List ℕ → ℕ → ℕ → ℕ
marked Q v x = elim (among x Q) [ true ↦ flagged v | false ↦ v ]

-- the table after has the criterion's marks, over the one before
pub record Marked (Q before after : List ℕ) : Type 0 where
  pub long : length after ≡ length before
  pub at : (x : ℕ) → x < length before → get_or after x 0 ≡ marked Q (get_or before x 0) x

-- n where the test holds, else m
abbrev pub either : Bool → ℕ → ℕ → ℕ
either true n m = n
either false n m = m

-- the entry v of a place, by its cap: with the mark where it is kept and capped
abbrev pub bound : ℕ → ℕ → ℕ
bound cap v = either (eqb cap 0) v (either (eqb v left_place) left_capped (flagged v))

-- the table after has those entries, over those before
pub record Bound (N : Net) (before after : List ℕ) : Type 0 where
  pub long : length after ≡ length before
  pub at : (x : ℕ) → x < N.places → get_or after x 0 ≡ bound (N.cap x) (get_or before x 0)

-- every number of the list has an entry in a table of this length
pub record Reached (l : List ℕ) (long : ℕ) : Type 0 where
  pub few : long ≤ 1024
  pub at : (i : ℕ) → i < length l → get_or l i 0 < long
