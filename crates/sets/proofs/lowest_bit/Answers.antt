use Prim.Native.Nat.{ℕ}
use mathlib.Core.Path.{ap, ◌∙◌}
use Rattle.sets.specs.Member.{bit}
use Rattle.sets.proofs.Bits.{bit-zero}
use Rattle.sets.proofs.lowest_bit.Goals as goal

pub returns-then-w-eq0 : goal.returns-then-w-eq0
returns-then-w-eq0 c = λ k l. ap (λ (w : ℕ). bit w k) c.if-w-eq0.true ∙ bit-zero k
