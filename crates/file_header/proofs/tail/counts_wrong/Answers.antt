use Prim.Native.Nat.{ℕ, ◌/◌, ◌<◌}
use mathlib.Core.Path.{refl}
use native.Mathlib.Omega.{arith}
use borrow.Author.Tests.{le-ltb}
use lib.Bits.{bit_or, or_add_and, and_le_l, and_le_r}
use Rattle.file_header.proofs.tail.counts_wrong.Goals as goal

-- each of two numbers is at most both together, bit by bit
or_most : (a b n : ℕ) → bit_or a b < n → (a < n) × (b < n)
or_most a b n l = (omega (arith, l, or_add_and a b, and_le_r a b), omega (arith, l, or_add_and a b, and_le_l a b))

pub returns-then-t-lt1024 : goal.returns-then-t-lt1024
returns-then-t-lt1024 c =
    let small = c in
    let t = small.args.t in
    let all = or_most (bit_or t.places t.transitions) (t.arcs / 4) 1024 small.if-t-lt1024.true in
    let both = or_most t.places t.transitions 1024 all.0 in
    rw (le-ltb 1024 t.places (omega (arith, both.0)), le-ltb 1024 t.transitions (omega (arith, both.1)), le-ltb 4096 t.arcs (omega (arith, all.1))) refl
