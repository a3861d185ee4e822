use Prim.Native.Nat.{◌-◌, ◌<◌}
use mathlib.Core.Path.{◌≡◌, sym, ◌∙◌}
use native.Mathlib.Omega.{arith}
use Rattle.file.specs.Layout.{words_from}
use Rattle.file.proofs.Rows.{length-words, words_at}
use Rattle.rules_origins.proofs.Firsts.{unknown_none, last_decides}
use Rattle.rules_origins.proofs.first_unknown.Goals as goal

pub returns-then-count-eq0 : goal.returns-then-count-eq0
returns-then-count-eq0 c = let z : c.args.count ≡ 0 = c.if-count-eq0.true in sym z ∙ unknown_none _ _ _ (λ k l. absurd (omega arith))

pub returns-then-get16-limit : goal.returns-then-get16-limit
returns-then-get16-limit c =
    let a = c.args in
    let m = a.count - 1 in
    let long = length-words a.slice.now a.start a.count in
    let some : 0 < a.count = omega (arith, c.if-count-eq0.false) in
    unknown_none _ _ _ (λ k l. last_decides a.limit (words_from a.slice.now a.start a.count) c.requires.rise m (omega arith) (omega (arith, c.if-get16-limit.true, c.get16.ensures.0, words_at a.slice.now a.start a.count m (omega arith))) k (omega arith))
