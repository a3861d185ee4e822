-- Laws of the parts' lengths.
use Prim.Native.Nat.{ℕ, zero, suc, ◌+◌, ◌*◌, ◌≤◌, ◌<◌}
use mathlib.Core.Path.{◌≡◌, refl}
use mathlib.Core.Bool.{Bool, true, false}
use native.Mathlib.Omega.{arith}
use lib.Dec.{eqb}
use Rattle.file_header.specs.Layout.{in_slice, pick, places_length}

pub slice_part : (k n : ℕ) → (k ≡ 0 → ⊥) → in_slice k n ≡ n
slice_part zero n h = absurd (h refl)
slice_part (suc k) n h = refl

-- the bytes of n places, by edition
pick-le : (b : Bool) (n : ℕ) → (4 * n ≤ pick b (8 * n) (4 * n)) × (pick b (8 * n) (4 * n) ≤ 8 * n)
pick-le true n = (omega arith, omega arith)
pick-le false n = (omega arith, omega arith)

pub places_none : (edition : ℕ) → places_length edition 0 ≡ 0
places_none edition = none (eqb edition 2)
  where
    none : (b : Bool) → pick b (8 * 0) (4 * 0) ≡ 0
    none true = refl
    none false = refl

pub places_least : (edition n : ℕ) → 4 * n ≤ places_length edition n
places_least edition n = (pick-le (eqb edition 2) n).0

pub places_most : (edition n : ℕ) → places_length edition n ≤ 8 * n
places_most edition n = (pick-le (eqb edition 2) n).1

within_by : (b : Bool) (p n : ℕ) → p < n → pick b (8 * p) (4 * p) + 4 ≤ pick b (8 * n) (4 * n)
within_by true p n h = omega arith
within_by false p n h = omega arith

-- those of one place lie within
pub place-within : (edition p n : ℕ) → p < n → places_length edition p + 4 ≤ places_length edition n
place-within edition p n h = within_by (eqb edition 2) p n h
