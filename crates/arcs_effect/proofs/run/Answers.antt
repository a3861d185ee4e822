use native.Mathlib.Omega.{arith}
use Prim.Native.Nat.{ℕ, ◌+◌, ◌-◌}
use mathlib.Core.Path.{◌≡◌, ap, ◌∙◌}
use lib.ListN.{take, drop}
use Rattle.arcs_effect.proofs.run.Goals as goal

pub returns : goal.returns
returns c =
    let r = c.run_part-r.result in
    let n : r.start + r.length - r.start ≡ r.length = omega arith in
    ap (λ (k : ℕ). take k (drop r.start c.args.file.now)) n ∙ c.run_part-r.ensures.part
