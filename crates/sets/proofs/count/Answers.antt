use Prim.Native.Nat.{ℕ, ◌+◌, ◌*◌, ◌<◌}
use mathlib.Core.Path.{◌≡◌, refl, ap, ◌∙◌}
use native.Mathlib.Omega.{arith}
use lib.ListN.{get_or}
use Rattle.std.proofs.lemmas.List.{get_or-take, length-take}
use Rattle.sets.specs.Member.{bit, member, count_below}
use Rattle.sets.proofs.Members.{count_word}
use Rattle.sets.proofs.Bits.{count_le}
use Rattle.sets.proofs.count.Goals as goal
use Rattle.sets.proofs.count.Goals.{After-count_bits-total}

-- the bits of the word at the index are counted
counted : (c : After-count_bits-total) → c.count_bits-total.result ≡ count_below (bit (get_or c.args.words.now c.loop-w.w-index 0)) 64
counted c =
    let within : c.loop-w.w-index < c.args.n = omega (arith, length-take c.args.n c.args.words.now, c.loop-w-test.true) in
    c.count_bits-total.ensures ∙ ap (λ (w : ℕ). count_below (bit w) 64) (get_or-take c.args.n c.args.words.now c.loop-w.w-index 0 within)

pub loop-w-init : goal.loop-w-init
unfolding count_below
loop-w-init c = refl

pub overflow_add-total : goal.overflow_add-total
overflow_add-total c =
    omega (
      arith,
      c.loop-w.invariant,
      length-take c.args.n c.args.words.now,
      c.loop-w-test.true,
      count_le (member c.args.words.now) (c.loop-w.w-index * 64),
      counted (goal.at.overflow_add-total c).After-count_bits-total,
      count_le (bit (get_or c.args.words.now c.loop-w.w-index 0)) 64,
    )

pub loop-w-preserved : goal.loop-w-preserved
loop-w-preserved c =
    ap (λ (x : ℕ). x + c.count_bits-total.result) c.loop-w.invariant
    ∙ count_word c.args.words.now c.loop-w.w-index c.count_bits-total.result (counted (goal.at.loop-w-preserved c).After-count_bits-total)
