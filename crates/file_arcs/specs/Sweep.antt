-- Arcs gone through in pairs, all limits by one sum and the order by one product: for the reader's own functions, not for a reader of the contracts.
use Rattle.std.specs.Prelude.{ℕ, ◌+◌, ◌-◌, ◌*◌, ◌/◌, ◌%◌, ◌^◌, ◌<◌, ◌≤◌, Bool, ◌&&◌, ◌==◌, bit_and, bit_or, nat_le}

-- added to an arc's number, it raises the highest bit of a field at its limit or above, and of a weight above 0
abbrev pub room_of : ℕ → ℕ → ℕ
room_of P T = 32768 - T + 2147352576 + 4294967296 * (32768 - P) + 9223090561878065152

abbrev pub marks_of : ℕ → ℕ → ℕ
marks_of room w = bit_or ((w + room) % 2 ^ 64) w

abbrev pub both_fit : ℕ → ℕ → ℕ → Bool
both_fit room w v =
    (bit_and (bit_or (marks_of room w) (marks_of room v)) 0x800080008000 == 0) && nat_le 0x8000000000000000 (bit_and (marks_of room w) (marks_of room v))

-- the fields in the number w are within the limits of a net of P places and T transitions
pub record FitIn (P T w : ℕ) : Type 0 where
  pub transition : w % 65536 < T
  pub middle : w / 65536 % 65536 ≤ 1
  pub place : w / 4294967296 % 65536 < P
  pub weight : 1 ≤ w / 281474976710656

-- transition, direction and place of such a number, below the weight
pub record Narrow (x : ℕ) : Type 0 where
  pub transition : x % 65536 < 1024
  pub middle : x / 65536 % 65536 ≤ 1
  pub place : x / 4294967296 < 1024

-- the order of such numbers
abbrev pub sweep_key : ℕ → ℕ
sweep_key x = 4503633987109376 * (x % 65536) + 2251799847239680 * (x / 65536 % 65536) + 2199023255552 * (x / 4294967296)
