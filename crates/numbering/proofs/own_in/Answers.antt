use Rattle.std.proofs.Common.{List, ℕ, sym, ◌∙◌, subst, arith}
use lib.Seq.{take_all}
use Rattle.file.specs.Layout.{words_from}
use Rattle.file.proofs.Rows.{length-words, words_at}
use Rattle.numbering.specs.Own.{Own}
use Rattle.numbering.proofs.Entries.{own-none, own-next}
use Rattle.numbering.proofs.own_in.Goals as goal

pub loop-i-init : goal.loop-i-init
loop-i-init c = own-none _ c.requires.by_index

pub loop-i-preserved : goal.loop-i-preserved
loop-i-preserved c =
    let long = length-words c.args.file.now c.args.start c.args.count in
    let origin = c.get16-origin.ensures.0 ∙ sym (words_at _ _ _ _ c.loop-i-test.true) in
    own-next _ c.requires.origins.rise c.loop-i.i (omega (arith, long, c.loop-i-test.true)) c.loop-i.invariant origin c.put.ensures

pub returns : goal.returns
returns c =
    let words = words_from c.args.file.now c.args.start c.args.count in
    let all = length-words c.args.file.now c.args.start c.args.count in
    (c.loop-i.auto.table, subst (λ (l : List ℕ). Own l c.loop-i.table) (take_all c.loop-i.i words (omega (arith, all, c.loop-i-test.false))) c.loop-i.invariant)
