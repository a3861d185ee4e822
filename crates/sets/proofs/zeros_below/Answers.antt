use Prim.Native.Nat.{◌<◌}
use native.Mathlib.Nat.{lt_of_not-le}
use lib.Count.{count_trailing_zeros}
use Rattle.sets.proofs.Bits.{trailing_below, trailing_at, trailing_all}
use Rattle.sets.proofs.zeros_below.Goals as goal

pub returns : goal.returns
returns c =
    let w = c.args.w in
    let small : count_trailing_zeros 64 w < 64 = lt_of_not-le (λ h. c.requires (trailing_all 64 w c.ranges.w.fits h)) in
    (small, trailing_at 64 w small, trailing_below 64 w)
