-- Two numbers of 8 bytes are equal exactly when all eight bytes are.
use Prim.Native.Nat.{ℕ, zero, suc, ◌+◌, ◌*◌, ◌<◌}
use mathlib.Core.Path.{◌≡◌, sym, ap, ◌∙◌}
use mathlib.Core.List.{List}
use native.Mathlib.Omega.{arith}
use Rattle.file_words.specs.Word.{byte_at, le16, le32, le64, Bytes}

-- the eight bytes in one number
bytes_of : (s : List ℕ) (i : ℕ)
    → le64 s i ≡ byte_at s i + 256 * byte_at s (i + 1) + 65536 * byte_at s (i + 2) + 16777216 * byte_at s (i + 3)
    + 4294967296 * byte_at s (i + 4) + 1099511627776 * byte_at s (i + 5) + 281474976710656 * byte_at s (i + 6) + 72057594037927936 * byte_at s (i + 7)
unfolding le32 le16
bytes_of s i =
    let a : byte_at s (i + 2 + 1) ≡ byte_at s (i + 3) = ap (byte_at s) (omega arith) in
    let b : byte_at s (i + 4 + 1) ≡ byte_at s (i + 5) = ap (byte_at s) (omega arith) in
    let d : byte_at s (i + 4 + 2) ≡ byte_at s (i + 6) = ap (byte_at s) (omega arith) in
    let f : byte_at s (i + 4 + 2 + 1) ≡ byte_at s (i + 7) = ap (byte_at s) (omega arith) in
    omega (arith, a, b, d, f)

-- one byte taken off either number
lower : (a b x y : ℕ) → a < 256 → b < 256 → a + 256 * x ≡ b + 256 * y → (a ≡ b) × (x ≡ y)
lower a b x y la lb e = (omega arith, omega arith)

eight : (P : ℕ → Type 0) → P 0 → P 1 → P 2 → P 3 → P 4 → P 5 → P 6 → P 7 → (k : ℕ) → k < 8 → P k
eight P a b d e f g h i zero l = a
eight P a b d e f g h i (suc zero) l = b
eight P a b d e f g h i (suc (suc zero)) l = d
eight P a b d e f g h i (suc (suc (suc zero))) l = e
eight P a b d e f g h i (suc (suc (suc (suc zero)))) l = f
eight P a b d e f g h i (suc (suc (suc (suc (suc zero))))) l = g
eight P a b d e f g h i (suc (suc (suc (suc (suc (suc zero)))))) l = h
eight P a b d e f g h i (suc (suc (suc (suc (suc (suc (suc zero))))))) l = i
eight P a b d e f g h i (suc (suc (suc (suc (suc (suc (suc (suc k)))))))) l = absurd (omega arith)

module _ (s s' : List ℕ) (i j : ℕ) where
  pub word_bytes : Bytes s → Bytes s' → le64 s i ≡ le64 s' j → (k : ℕ) → k < 8 → byte_at s (i + k) ≡ byte_at s' (j + k)
  unfolding Bytes
  word_bytes low low' e =
      let t = bytes_of s i in
      let u = bytes_of s' j in
      let z : i + 0 ≡ i = omega arith in
      let y : j + 0 ≡ j = omega arith in
      let b0 = lower (byte_at s i) (byte_at s' j) _ _ (low i) (low' j)
      (let q : byte_at s i + 256 * (byte_at s (i + 1) + 256 * (byte_at s (i + 2) + 256 * (byte_at s (i + 3) + 256 * (byte_at s (i + 4) + 256 * (byte_at s (i + 5) + 256 * (byte_at s (i + 6) + 256 * byte_at s (i + 7)))))))
      ≡ byte_at s' j + 256 * (byte_at s' (j + 1) + 256 * (byte_at s' (j + 2) + 256 * (byte_at s' (j + 3) + 256 * (byte_at s' (j + 4) + 256 * (byte_at s' (j + 5) + 256 * (byte_at s' (j + 6) + 256 * byte_at s' (j + 7))))))) = omega (arith, t, u, e) in q) in
      let b1 = lower (byte_at s (i + 1)) (byte_at s' (j + 1)) _ _ (low (i + 1)) (low' (j + 1)) b0.1 in
      let b2 = lower (byte_at s (i + 2)) (byte_at s' (j + 2)) _ _ (low (i + 2)) (low' (j + 2)) b1.1 in
      let b3 = lower (byte_at s (i + 3)) (byte_at s' (j + 3)) _ _ (low (i + 3)) (low' (j + 3)) b2.1 in
      let b4 = lower (byte_at s (i + 4)) (byte_at s' (j + 4)) _ _ (low (i + 4)) (low' (j + 4)) b3.1 in
      let b5 = lower (byte_at s (i + 5)) (byte_at s' (j + 5)) _ _ (low (i + 5)) (low' (j + 5)) b4.1 in
      let b6 = lower (byte_at s (i + 6)) (byte_at s' (j + 6)) _ _ (low (i + 6)) (low' (j + 6)) b5.1 in
      eight (λ k. byte_at s (i + k) ≡ byte_at s' (j + k)) (ap (byte_at s) z ∙ b0.0 ∙ sym (ap (byte_at s') y)) b1.0 b2.0 b3.0 b4.0 b5.0 b6.0 b6.1

  pub bytes_word : ((k : ℕ) → k < 8 → byte_at s (i + k) ≡ byte_at s' (j + k)) → le64 s i ≡ le64 s' j
  bytes_word e =
      let z : i + 0 ≡ i = omega arith in
      let y : j + 0 ≡ j = omega arith in
      let b0 : byte_at s i ≡ byte_at s' j = sym (ap (byte_at s) z) ∙ e 0 (omega arith) ∙ ap (byte_at s') y in
      omega (arith, bytes_of s i, bytes_of s' j, b0, e 1 (omega arith), e 2 (omega arith), e 3 (omega arith), e 4 (omega arith), e 5 (omega arith), e 6 (omega arith), e 7 (omega arith))
