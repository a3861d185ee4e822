-- An arc and the one after it, by the four bytes that have the direction, the zero byte and the place.
use Prim.Native.Nat.{ℕ, ◌+◌, ◌*◌}
use mathlib.Core.List.{List}
use mathlib.Core.Path.{◌≡◌, ap}
use native.Mathlib.Omega.{arith}
use Rattle.file_words.specs.Word.{byte_at, le16, le32}
use Rattle.arcs_groups.specs.Groups.{Parallel}

-- parallel arcs have the same four bytes
pub same_middle : (s : List ℕ) (start i : ℕ) → byte_at s (start + 8 * i + 3) ≡ 0 → byte_at s (start + 8 * (i + 1) + 3) ≡ 0 → Parallel s start i (i + 1) → le32 s (start + 8 * i + 10) ≡ le32 s (start + 8 * i + 2)
unfolding le32 le16
same_middle s start i z z' y =
    let b = start + 8 * i in
    let c = start + 8 * (i + 1) in
    omega (
      arith,
      z,
      z',
      y.direction,
      y.place,
      at (c + 2) (b + 10) (omega arith),
      at (c + 3) (b + 10 + 1) (omega arith),
      at (c + 4) (b + 10 + 2) (omega arith),
      at (c + 4 + 1) (b + 10 + 2 + 1) (omega arith),
      at (b + 3) (b + 2 + 1) (omega arith),
      at (b + 4) (b + 2 + 2) (omega arith),
      at (b + 4 + 1) (b + 2 + 2 + 1) (omega arith),
    )
  where
    at : (k m : ℕ) → k ≡ m → byte_at s k ≡ byte_at s m
    at k m e = ap (byte_at s) e
