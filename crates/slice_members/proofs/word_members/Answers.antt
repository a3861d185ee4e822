use Prim.Native.Nat.{◌+◌, ◌-◌}
use mathlib.Core.List.{◌∷◌}
use mathlib.Core.Path.{◌≡◌, ap, ◌∙◌}
use native.Mathlib.Omega.{arith}
use lib.Bits.{bit_and, and_le_l}
use lib.Count.{count_trailing_zeros}
use lib.ListN.{length}
use Rattle.tables.proofs.Storing.{storing_as, storing_one, storing_none, storing_end}
use Rattle.slice_members.specs.List.{bits_from}
use Rattle.slice_members.proofs.Selected.{bits_none, bits_rest}
use Rattle.slice_members.proofs.word_members.Goals as goal
use Rattle.slice_members.proofs.word_members.Goals.{In-loop-w}

-- the lowest bit and the rest
next : (c : In-loop-w)
    → bits_from c.args.base c.loop-w.w
    ≡ (c.args.base + count_trailing_zeros 64 c.loop-w.w) ∷ bits_from c.args.base (bit_and c.loop-w.w (c.loop-w.w - 1))
next c = bits_rest c.args.base c.loop-w.w c.loop-w.invariant.0 c.loop-w-test.true

next_length : (c : In-loop-w)
    → length (bits_from c.args.base c.loop-w.w)
    ≡ 1 + length (bits_from c.args.base (bit_and c.loop-w.w (c.loop-w.w - 1)))
next_length c = omega (arith, ap length (next c))

pub bounds-list-n : goal.bounds-list-n
bounds-list-n c = omega (arith, next_length c, c.loop-w.invariant.1.long, c.loop-w.invariant.1.count, c.requires.word_in_bounds)

pub loop-w-smaller : goal.loop-w-smaller
loop-w-smaller c = omega (arith, next_length c)

pub loop-w-preserved : goal.loop-w-preserved
loop-w-preserved c = (
  omega (arith, c.loop-w.invariant.0, and_le_l c.loop-w.w (c.loop-w.w - 1)),
  storing_one (storing_as c.loop-w.invariant.1 (next c)),
)

pub returns : goal.returns
returns c =
    let at = c.loop-w in
    let none = ap (bits_from c.args.base) c.loop-w-test.false ∙ bits_none c.args.base in
    let s = storing_as at.invariant.1 none in
    (storing_end s, storing_none s)
