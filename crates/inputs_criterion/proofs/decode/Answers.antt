use Rattle.std.proofs.Common.{◌≡◌, length, length-set, ◌∙◌, arith}
use Rattle.inputs_criterion.proofs.Places.{words_none, words_set}
use Rattle.inputs_criterion.proofs.decode.Goals as goal

pub returns-then-count-eq0 : goal.returns-then-count-eq0
returns-then-count-eq0 c = rw c.if-count-eq0.true (words_none _ _)

pub loop-i-init : goal.loop-i-init
loop-i-init c = words_set _ c.args.list.now 0 _ (omega (arith, c.if-count-eq0.false, c.requires)) (words_none _ _) c.get16.ensures.0

pub loop-i-preserved : goal.loop-i-preserved
loop-i-preserved c =
    let whole : length c.loop-i.list ≡ length c.args.list.now = c.loop-i.auto.list ∙ length-set c.args.list.now 0 c.get16.result in
    words_set _ c.loop-i.list c.loop-i.i _ (omega (arith, whole, c.loop-i-test.true, c.requires)) c.loop-i.invariant c.get16-in-loop-i.ensures.0
