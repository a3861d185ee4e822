-- Numbers of 32 bits with a sign, and entries that wrap.
use Rattle.std.proofs.Common.{◌≡◌, ℕ, ◌+◌, ◌-◌, ◌%◌, ◌^◌, ◌<◌, ◌≤◌, arith, eq-eqb, ne_eqb}
use lib.Bits.{bit_or, or_add_and, and_le_l, and_le_r}
use Rattle.replay_fast.specs.Moves.{change_of, Weighs, Signed, lift}

-- ---- what an arc adds

pub change_takes : (d w : ℕ) → d ≡ 0 → change_of d w ≡ 4294967296 - w
change_takes d w z = rw (eq-eqb d 0 z)

pub change_gives : (d w : ℕ) → (d ≡ 0 → ⊥) → change_of d w ≡ w
change_gives d w z = rw (ne_eqb d 0 z)

module _ (d w : ℕ) (f : Weighs w) where
  pub signed_takes : d ≡ 0 → (r : ℕ) → r < 18446744073709551616 → (r + w) % 2 ^ 64 ≡ 0 → Signed (change_of d w) r
  signed_takes z r fits q =
      let e = change_takes d w z in
      record { gives = λ l. absurd (omega (arith, e, f.below, l)); takes = λ l. omega (arith, e, f.some, f.below, fits, q) }

  pub signed_gives : (d ≡ 0 → ⊥) → Signed (change_of d w) w
  signed_gives z = let e = change_gives d w z in record { gives = λ l. omega (arith, e); takes = λ l. absurd (omega (arith, e, f.below, l)) }

module _ (d w : ℕ) (f : Weighs w) (c : ℕ) (x : Signed (change_of d w) c) where
  pub takes_is : d ≡ 0 → c + w ≡ 18446744073709551616
  takes_is z = let e = change_takes d w z in omega (arith, e, f.some, f.below, x.takes (omega (arith, e, f.below)))

  pub gives_is : (d ≡ 0 → ⊥) → c ≡ w
  gives_is z = let e = change_gives d w z in omega (arith, e, f.below, x.gives (omega (arith, e, f.below)))

-- ---- an entry after a sum of 64 bits, and after a difference

pub add-takes : (v w c : ℕ) → c + w ≡ 18446744073709551616 → w < 65536 → 65536 ≤ lift v → lift ((v + c) % 2 ^ 64) + w ≡ lift v
add-takes v w c e a b = omega (arith, e, a, b)

pub add-gives : (v w c : ℕ) → c ≡ w → w < 65536 → lift v < 18446744073709486080 → lift ((v + c) % 2 ^ 64) ≡ lift v + w
add-gives v w c e a b = omega (arith, e, a, b)

pub sub-takes : (r v w c : ℕ) → c + w ≡ 18446744073709551616 → w < 65536 → lift v < 18446744073709486080 → (r + c) % 2 ^ 64 ≡ v → lift r ≡ lift v + w
sub-takes r v w c e a b f = omega (arith, e, a, b, f)

pub sub-gives : (r v w c : ℕ) → c ≡ w → w < 65536 → 65536 ≤ lift v → (r + c) % 2 ^ 64 ≡ v → lift r + w ≡ lift v
sub-gives r v w c e a b f = omega (arith, e, a, b, f)

-- ---- bit 63 of all the entries met

module _ (n v : ℕ) (l : bit_or n v < 9223372036854775808) where
  pub all-was : n < 9223372036854775808
  all-was = omega (arith, l, or_add_and n v, and_le_r n v)

  pub all-now : 9223372036854775808 ≤ lift v
  all-now = omega (arith, l, or_add_and n v, and_le_l n v)
