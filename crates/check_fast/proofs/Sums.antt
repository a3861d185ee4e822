-- What the sum of an arc and its two entries tells, in numbers.
use Prim.Native.Nat.{ℕ, ◌+◌, ◌-◌, ◌*◌, ◌/◌, ◌%◌, ◌≤◌, ◌<◌}
use mathlib.Core.Path.{◌≡◌, sym, ap, ◌∙◌}
use mathlib.Core.Bool.{true, false}
use native.Mathlib.Omega.{arith}
use borrow.Author.Tests.{ltb-true, ltb-false, eqb-false}
use Rattle.check_fast.specs.Pass.{kept_of, odd_of}

-- z has these own numbers, 1024 more each, and these flags beside the spare byte
pub record Flags (t s p g f z : ℕ) : Type 0 where
  pub least_t : 1024 ≤ t
  pub small_t : t < 2048
  pub small_f : f < 32
  pub small_s : s < 256
  pub least_p : 1024 ≤ p
  pub small_p : p < 2048
  pub small_g : g < 65536
  pub sum : z ≡ t + 65536 * f + 16777216 * s + 4294967296 * p + 281474976710656 * g

module _ {t s p g f z : ℕ} (x : Flags t s p g f z) where
  pub low : z % 4294967296 ≡ t + 65536 * f + 16777216 * s
  low = omega arith

  pub flags_at : z / 65536 % 65536 ≡ f + 256 * s
  flags_at = omega arith

  pub below : z < 18446744073709551616
  below = omega arith

  -- both ends are kept
  pub few_flags : kept_of z ≡ true → (f < 4) × (s ≡ 0)
  few_flags e = let h : z % 4294967296 < 262144 = ltb-true _ _ e in (omega (arith, low), omega (arith, low))

  pub many_flags : kept_of z ≡ false → s ≡ 0 → 4 ≤ f
  many_flags e n = let h : 262144 ≤ z % 4294967296 = ltb-false _ _ e in omega (arith, low)

  -- nothing wants a closer look
  pub even_flags : odd_of z ≡ false → f / 8 % 2 ≡ 0
  even_flags e =
      let n : z / 524288 % 2 ≡ 1 → ⊥ = eqb-false _ _ e in
      let k : z / 524288 % 2 ≡ 0 = two (z / 524288) n in
      omega (arith, low)
    where
      two : (m : ℕ) → (m % 2 ≡ 1 → ⊥) → m % 2 ≡ 0
      two m n = omega (arith, n)

-- ---- the slice's own arc beside the sum

-- two numbers agree in the bits that count
pub record Alike (a b : ℕ) : Type 0 where
  pub first : a % 1024 ≡ b % 1024
  pub second : a / 2048 % 64 ≡ b / 2048 % 64
  pub third : a / 262144 % 16777216 ≡ b / 262144 % 16777216
  pub fourth : a / 8796093022208 ≡ b / 8796093022208

-- those bits of a number by its parts: transition, direction and flags, spare byte, place, weight
module _ (t f s p g w : ℕ) (tl : t < 2048) (fl : f < 4) (sl : s < 256) (pl : p < 2048) (e : w ≡ t + 65536 * f + 16777216 * s + 4294967296 * p + 281474976710656 * g) where
  bits_1 : w % 1024 ≡ t % 1024
  bits_1 = let h : w ≡ t + 1024 * (64 * f + 16384 * s + 4194304 * p + 274877906944 * g) = omega arith in rw h (rest t (64 * f + 16384 * s + 4194304 * p + 274877906944 * g))
    where
      rest : (a m : ℕ) → (a + 1024 * m) % 1024 ≡ a % 1024
      rest a m = omega arith

  bits_2 : w / 2048 % 64 ≡ 32 * f % 64
  bits_2 = let h : w / 2048 ≡ 32 * f + 64 * (128 * s + 32768 * p + 2147483648 * g) = omega arith in rw h (rest (32 * f) (128 * s + 32768 * p + 2147483648 * g))
    where
      rest : (a m : ℕ) → (a + 64 * m) % 64 ≡ a % 64
      rest a m = omega arith

  bits_3 : w / 262144 % 16777216 ≡ (64 * s + 16384 * p) % 16777216
  bits_3 = let h : w / 262144 ≡ 64 * s + 16384 * p + 16777216 * (64 * g) = omega arith in rw h (rest (64 * s + 16384 * p) (64 * g))
    where
      rest : (a m : ℕ) → (a + 16777216 * m) % 16777216 ≡ a % 16777216
      rest a m = omega arith

  bits_4 : w / 8796093022208 ≡ 32 * g
  bits_4 = omega arith

low_bit : (f d : ℕ) → d ≤ 1 → (q : ℕ) → f ≡ d + 2 * q → 32 * f % 64 ≡ 32 * d
low_bit f d dl q e = omega arith

-- the slice's arc has the own numbers, the direction and the weight
pub own_is : {t s p g f z : ℕ} → Flags t s p g f z → p < 2048 → (d : ℕ) → d ≤ 1 → (q : ℕ) → q ≤ 1 → f ≡ d + 2 * q → s ≡ 0
    → (T D S P G w : ℕ) → T < 1024 → D ≤ 1 → S < 256 → P < 1024 → w ≡ T + 65536 * D + 16777216 * S + 4294967296 * P + 281474976710656 * G → Alike z w
    → (T ≡ t - 1024) × (D ≡ d) × (P ≡ p - 1024) × (G ≡ g)
own_is {t} {s} {p} {g} {f} {z} x pl d dl q ql e n T D S P G w Tl Dl Sl Pl is like =
    let f4 : f < 4 = omega arith in
    let one : t % 1024 ≡ T % 1024 = sym (bits_1 t f s p g z x.small_t f4 x.small_s pl x.sum) ∙ like.first ∙ bits_1 T D S P G w (omega arith) (omega arith) Sl (omega arith) is in
    let two : 32 * d ≡ 32 * D = sym (low_bit f d dl q e) ∙ sym (bits_2 t f s p g z x.small_t f4 x.small_s pl x.sum) ∙ like.second ∙ bits_2 T D S P G w (omega arith) (omega arith) Sl (omega arith) is ∙ low_bit D D Dl 0 (omega arith) in
    let three : (64 * s + 16384 * p) % 16777216 ≡ (64 * S + 16384 * P) % 16777216 = sym (bits_3 t f s p g z x.small_t f4 x.small_s pl x.sum) ∙ like.third ∙ bits_3 T D S P G w (omega arith) (omega arith) Sl (omega arith) is in
    let four : 32 * g ≡ 32 * G = sym (bits_4 t f s p g z x.small_t f4 x.small_s pl x.sum) ∙ like.fourth ∙ bits_4 T D S P G w (omega arith) (omega arith) Sl (omega arith) is in
    (transition t T x.least_t x.small_t Tl one, half d D two, place p s P S x.least_p pl Pl Sl n three, half g G four)
  where
    transition : (a b : ℕ) → 1024 ≤ a → a < 2048 → b < 1024 → a % 1024 ≡ b % 1024 → b ≡ a - 1024
    transition a b l m k e = omega arith

    half : (a b : ℕ) → 32 * a ≡ 32 * b → b ≡ a
    half a b e = omega arith

    wrap : (m : ℕ) → m < 16777216 → (m + 16777216) % 16777216 ≡ m
    wrap m l = omega arith

    less : (m S b : ℕ) → S < 256 → 256 * m ≡ S + 256 * b → b ≡ m
    less m S b l e =
        let one : 256 * m / 256 ≡ m = omega arith in
        let two : (S + 256 * b) / 256 ≡ b = omega arith in
        sym two ∙ ap (λ (k : ℕ). k / 256) (sym e) ∙ one

    place : (a s b S : ℕ) → 1024 ≤ a → a < 2048 → b < 1024 → S < 256 → s ≡ 0 → (64 * s + 16384 * a) % 16777216 ≡ (64 * S + 16384 * b) % 16777216 → b ≡ a - 1024
    place a s b S l m k Sl z e =
        let sum : 64 * s + 16384 * a ≡ 16384 * (a - 1024) + 16777216 = omega arith in
        let one : (64 * s + 16384 * a) % 16777216 ≡ 16384 * (a - 1024) = rw sum (wrap (16384 * (a - 1024)) (omega arith)) in
        let two : (64 * S + 16384 * b) % 16777216 ≡ 64 * S + 16384 * b = omega arith in
        let three : 16384 * (a - 1024) ≡ 64 * S + 16384 * b = sym one ∙ e ∙ two in
        less (a - 1024) S b Sl (omega (arith, three))
