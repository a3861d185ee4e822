use native.Mathlib.Omega.{arith}
use borrow.Author.Count.{below_more}
use Rattle.file.proofs.Rows.{words_at}
use Rattle.rules_origins.proofs.Firsts.{unknown_at, unknown_none}
use Rattle.rules_origins.proofs.scan.Goals as goal

pub returns-then-limit-get16 : goal.returns-then-limit-get16
returns-then-limit-get16 c =
    let a = c.args in
    unknown_at _ _ _ c.loop-j.j c.loop-j-test.true
    (omega (arith, c.if-limit-get16.true, c.get16.ensures.0, words_at a.slice.now a.start a.count c.loop-j.j c.loop-j-test.true))
    c.loop-j.invariant

pub loop-j-preserved : goal.loop-j-preserved
loop-j-preserved c =
    let a = c.args in
    below_more _ _ c.loop-j.invariant
    (omega (arith, c.if-limit-get16.false, c.get16.ensures.0, words_at a.slice.now a.start a.count c.loop-j.j c.loop-j-test.true))

pub returns : goal.returns
returns c = unknown_none _ _ _ (λ k l. c.loop-j.invariant k (omega (arith, c.loop-j-test.false)))
