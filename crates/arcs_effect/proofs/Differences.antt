-- The difference of two numbers as a signed one.
use Prim.Native.Nat.{ℕ, zero, suc, ◌-◌, ◌<◌, ◌^◌}
use mathlib.Core.Path.{◌≡◌, refl, ap₂}
use mathlib.Core.Bool.{Bool, true, false, cond}
use native.Mathlib.Omega.{arith}
use native.Mathlib.Nat.{add-zero}
use lib.Dec.{ltb}
use lib.IntN.{ℤ, pos, negsuc, ◌-ℤ◌}
use lib.Signed.{mag}
use mir.Syntax.{w32}
use mir.Val.{SFits, to_z}
use mir.Facts.{to_z_pos}

mag_by : (b : Bool) (x y : ℤ) {H : ℕ} → (b ≡ true → mag x < H) → (b ≡ false → mag y < H) → mag (cond b x y) < H
mag_by true x y f g = f refl
mag_by false x y f g = g refl

-- it is no larger than they are
mag_sub : (a b : ℕ) {H : ℕ} → a < H → b < H → mag (pos a -ℤ pos b) < H
mag_sub a zero p q = rw (add-zero a) p
mag_sub a (suc b) p q = mag_by (ltb a (suc b)) (negsuc (suc b - suc a)) (pos (a - suc b)) (λ e. omega arith) (λ e. omega arith)

module _ (a b : ℕ) (h : (a < 2 ^ 31) × (b < 2 ^ 31)) where
  -- a number below 2 ^ 31 is itself as a signed one
  pub difference_is : to_z w32 a -ℤ to_z w32 b ≡ pos a -ℤ pos b
  difference_is = ap₂ (λ (x y : ℤ). x -ℤ y) (to_z_pos w32 h.0) (to_z_pos w32 h.1)

  pub difference_fits : SFits w32 (to_z w32 a -ℤ to_z w32 b)
  difference_fits = rw difference_is (record { sfits = mag_sub a b h.0 h.1 })
