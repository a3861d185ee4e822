use Rattle.std.proofs.Common.{◌≡◌, ℕ, ◌+◌, ◌*◌, ◌-◌, ◌≤◌, ◌<◌, Bool, not, ◌&&◌, eqb, sym, ap, ap₂, ◌∙◌, arith}
use Rattle.file_words.specs.Word.{le32}
use Rattle.file_words.specs.Refusal.{caps_refusal, over_cap}
use Rattle.file_words.proofs.Laws.{caps_step, caps_end}
use Rattle.file_words.proofs.Through.{passed, one_more, and-true}
use Rattle.file_words.proofs.capacity.bounded.Goals as goal

pub loop-p-preserved : goal.loop-p-preserved
loop-p-preserved c =
    let loop = c.loop-p in
    let file = c.args.file.now in
    let at = c.args.start + 8 * loop.p in
    let some : 0 < c.args.count - loop.p = omega (arith, c.loop-p-test.true) in
    let next : c.args.start + 8 * (loop.p + 1) ≡ at + 8 = omega arith in
    let fewer : c.args.count - (loop.p + 1) ≡ c.args.count - loop.p - 1 = omega arith in
    let rest = caps_refusal file (at + 8) (c.args.count - loop.p - 1) in
    let over : over_cap (le32 file at) (le32 file (at + 4)) ≡ c.over-above.result = ap₂ over_cap (sym c.get32.ensures.0) (sym c.get32-in-loop-p.ensures.0) ∙ sym c.over-above.ensures in
    rw (next, fewer) (one_more loop.above c.over-above.result (eqb rest 0) _
    (loop.invariant ∙ ap (λ (x : Bool). not loop.above && x) (ap (λ (n : ℕ). eqb n 0) (caps_step file at (c.args.count - loop.p) some) ∙ passed (over_cap (le32 file at) (le32 file (at + 4))) 15 rest ∙ ap (λ (b : Bool). not b && eqb rest 0) over)))

pub returns : goal.returns
returns c =
    let none : c.args.count - c.loop-p.p ≤ 0 = omega (arith, c.loop-p-test.false) in
    sym (c.loop-p.invariant ∙ rw (caps_end c.args.file.now _ (c.args.count - c.loop-p.p) none) (and-true c.loop-p.above))
