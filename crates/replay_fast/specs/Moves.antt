-- What each arc adds to its place, as one number, and entries that wrap below 0 in the middle of a firing.
use Rattle.std.specs.Prelude.{◌≡◌, ℕ, zero, suc, ◌+◌, ◌-◌, ◌*◌, ◌%◌, ◌<◌, ◌≤◌, List, length, ◌==◌, slice_index}
use Rattle.net.specs.Net.{Uncapped, counted}
use Rattle.file_words.specs.Word.{Bytes}
use Rattle.file_arcs.specs.Layout.{arc_at}
use Rattle.file.specs.Layout.{net_from}
use Rattle.file.specs.Facts.{Sound}
use Rattle.file_header.specs.declared.Header.{Header}
use Rattle.arcs_starts.specs.Table.{choose, Split}
use Rattle.arcs_column.specs.Ways.{place_at, sum_on}

-- what an arc adds to its place, modulo 2 ^ 32; an input arc takes its weight
abbrev pub change_of : ℕ → ℕ → ℕ
change_of direction weight = choose (direction == 0) (4294967296 - weight) weight

-- the weight of an arc of a file that was read
pub record Weighs (w : ℕ) : Type 0 where
  pub some : 1 ≤ w
  pub below : w < 65536

-- r is modulo 2 ^ 64 what c is modulo 2 ^ 32, with bit 31 as the sign
pub record Signed (c r : ℕ) : Type 0 where
  pub gives : c < 2147483648 → r ≡ c
  pub takes : 2147483648 ≤ c → r ≡ c + 18446744069414584320

-- what arc j of those that start at `start` adds to its place
abbrev pub change_at : List ℕ → ℕ → ℕ → ℕ
change_at s start j = change_of (arc_at s (start + 8 * j)).direction (arc_at s (start + 8 * j)).weight

-- a file that was read, and room for an entry an arc in both tables
pub record Readable (s : List ℕ) (h : Header) (places changes : List ℕ) : Type 0 where
  pub sound : Sound s h
  pub room : h.arcs ≤ length places
  pub long : h.arcs ≤ length changes

-- the places of all arcs, and what they add
pub record MovesOf (s : List ℕ) (h : Header) (places changes : List ℕ) : Type 0 where
  pub room : h.arcs ≤ length places
  pub long : h.arcs ≤ length changes
  pub place : (j : ℕ) → j < h.arcs → slice_index places j ≡ place_at s h.arcstart j
  pub change : (j : ℕ) → j < h.arcs → slice_index changes j ≡ change_at s h.arcstart j

-- an entry counted from 2 ^ 63 below 0 on: the tokens and 2 ^ 63, and less than 2 ^ 63 where it has wrapped
abbrev pub lift : ℕ → ℕ
lift v = (v + 9223372036854775808) % 18446744073709551616

-- the entry of p so
abbrev pub lift_at : List ℕ → ℕ → ℕ
lift_at m p = lift (slice_index m p)

-- the arcs from..to, inputs first, can move the entries of m, none of which leaves its room
pub record Movable (s : List ℕ) (h : Header) (from to : ℕ) (m : List ℕ) : Type 0 where
  pub sound : Sound s h
  pub bytes : Bytes s
  pub rising : from ≤ to
  pub within : to ≤ h.arcs
  pub held : length m ≡ h.places
  pub small : (d p : ℕ) → sum_on d s h.arcstart p to ≤ sum_on d s h.arcstart p from + 268435456
  pub inputs : (j p : ℕ) → from ≤ j → j < to → (arc_at s (h.arcstart + 8 * j)).direction ≡ 0 → sum_on 1 s h.arcstart p (j + 1) ≡ sum_on 1 s h.arcstart p from
  pub least : (p : ℕ) → p < length m → 4611686018427387904 ≤ lift_at m p
  pub most : (p : ℕ) → p < length m → lift_at m p < 13835058055282163712
  pub fits : (p : ℕ) → slice_index m p < 18446744073709551616

-- each entry has lost the weights of the arcs from..to, of those that start at `start`, in direction d, and got those in direction g
pub record Moved (d g : ℕ) (s : List ℕ) (start from to : ℕ) (was is : List ℕ) : Type 0 where
  pub long : length is ≡ length was
  pub at : (p : ℕ) → p < length was → lift_at is p + sum_on d s start p to + sum_on g s start p from ≡ lift_at was p + sum_on g s start p to + sum_on d s start p from
  pub fits : (p : ℕ) → slice_index is p < 18446744073709551616

-- no entry has wrapped
abbrev pub Whole : List ℕ → Type 0
Whole m = (p : ℕ) → p < length m → 9223372036854775808 ≤ lift_at m p

-- the arcs from..to have moved the entries, and where bit 63 of the answer is 0 no input took more than the tokens
pub record Shifted (s : List ℕ) (start from to : ℕ) (was is : List ℕ) (r : ℕ) : Type 0 where
  pub moved : Moved 0 1 s start from to was is
  pub enough : r < 9223372036854775808 → Whole was → (p : ℕ) → p < length was → 9223372036854775808 + sum_on 0 s start p to ≤ lift_at was p + sum_on 0 s start p from

-- the same where r is `to`; where it is below, the arcs up to r have moved the entries, and the others not
pub record Stopped (s : List ℕ) (start from to : ℕ) (was is : List ℕ) (r : ℕ) : Type 0 where
  pub whole : to ≤ r → Shifted s start from to was is 0
  pub part : r < to → (from ≤ r) × Moved 0 1 s start from (r + 1) was is

-- no place of the arcs from..to has more tokens in m than its cap
pub record Roomy (s : List ℕ) (h : Header) (from to : ℕ) (m : List ℕ) : Type 0 where
  pub at : (j : ℕ) → from ≤ j → j < to → 0 < (net_from s h).cap (place_at s h.arcstart j) → slice_index m (place_at s h.arcstart j) ≤ (net_from s h).cap (place_at s h.arcstart j)

-- how many of the entries 1..n are as the one before
unfoldable pub repeats_to : List ℕ → ℕ → ℕ
repeats_to table zero = 0
repeats_to table (suc n) = repeats_to table n + counted (slice_index table (suc n) == slice_index table n) 1

-- a file without caps that was read, where the arcs of each transition start, and m has an entry for each place
pub record Indexed (s : List ℕ) (h : Header) (table m : List ℕ) : Type 0 where
  pub sound : Sound s h
  pub bytes : Bytes s
  pub uncapped : Uncapped (net_from s h)
  pub long : h.transitions < length table
  pub firsts : (t : ℕ) → t ≤ h.transitions → Split s h.arcstart h.arcs (2 * t) (slice_index table t)
  pub places : length m ≡ h.places
