use Rattle.std.proofs.Common.{◌≡◌, ◌+◌, ◌*◌, ◌-◌, ◌≤◌, ◌<◌, Bool, not, ◌&&◌, eqb, leb, sym, ap, ◌∙◌, arith}
use Rattle.file_words.specs.Refusal.{table_refusal}
use Rattle.file_words.proofs.Rising.{next-rises, single}
use Rattle.file_words.proofs.Through.{one_more, and-true}
use Rattle.file_words.proofs.origins.rises.Goals as goal

pub loop-j-preserved : goal.loop-j-preserved
loop-j-preserved c =
    let loop = c.loop-j in
    let file = c.args.file.now in
    let at = c.args.start + 2 * (loop.j - 1) in
    let left = c.args.count - (loop.j - 1) in
    let some : 1 < left = omega (arith, c.loop-j-test.true, loop.auto.j) in
    let next : c.args.start + 2 * (loop.j + 1 - 1) ≡ at + 2 = omega (arith, loop.auto.j) in
    let fewer : c.args.count - (loop.j + 1 - 1) ≡ left - 1 = omega (arith, loop.auto.j) in
    rw (next, fewer) (one_more loop.falls (leb c.get16.result c.get16-in-loop-j.result) (eqb (table_refusal file (at + 2) 0 (left - 1)) 0) _
    (loop.invariant ∙ rw (c.get16.ensures.0, c.get16-in-loop-j.ensures.0) (ap (λ (x : Bool). not loop.falls && x) (next-rises file at left some))))

pub returns : goal.returns
returns c =
    let none : c.args.count - (c.loop-j.j - 1) ≤ 1 = omega (arith, c.loop-j-test.false) in
    sym (c.loop-j.invariant ∙ rw (single c.args.file.now _ _ none) (and-true c.loop-j.falls))
