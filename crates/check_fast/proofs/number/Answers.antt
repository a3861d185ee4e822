use Prim.Native.Nat.{ℕ, ◌<◌}
use mathlib.Core.Path.{refl, subst, ◌∙◌, sym}
use mathlib.Core.List.{List}
use lib.Seq.{take_all}
use Rattle.file.proofs.Rows.{length-words, words_at}
use native.Mathlib.Omega.{arith}
use lib.ListN.{length}
use Rattle.file.specs.Layout.{words_from}
use Rattle.check_fast.specs.Entries.{Numbered}
use Rattle.check_fast.proofs.Growing.{numbered-none, numbered_next}
use Rattle.check_fast.proofs.number.Goals as goal
use Rattle.check_fast.proofs.number.Goals.{After-get16-origin}

-- the origin has an entry
inside : (c : After-get16-origin) → c.get16-origin.result < length c.args.table.now
inside c =
    let a = c.args in
    let i = c.loop-i.i in
    let l : i < length (words_from a.file.now a.start a.count) = omega (arith, length-words a.file.now a.start a.count) in
    omega (arith, words_at a.file.now a.start a.count i c.loop-i-test.true, c.get16-origin.ensures.0, c.requires.reached.at i l)

pub loop-i-init : goal.loop-i-init
loop-i-init c = numbered-none _ _

pub overflow_sub-table : goal.overflow_sub-table
overflow_sub-table c = omega (arith, inside c, c.requires.reached.few)

pub bounds-table-origin : goal.bounds-table-origin
bounds-table-origin c = omega (arith, inside (goal.at.bounds-table-origin c).After-get16-origin, c.loop-i.invariant.long)

pub loop-i-preserved : goal.loop-i-preserved
loop-i-preserved c =
    let a = c.args in
    numbered_next _ _ c.requires.origins.rise c.loop-i.i (omega (arith, length-words a.file.now a.start a.count, c.loop-i-test.true)) c.loop-i.invariant
    (c.get16-origin.ensures.0 ∙ sym (words_at _ _ _ _ c.loop-i-test.true)) refl

pub returns : goal.returns
returns c =
    let a = c.args in
    let words = words_from a.file.now a.start a.count in
    subst (λ (l : List ℕ). Numbered a.unit l a.table.now c.loop-i.table) (take_all c.loop-i.i words (omega (arith, length-words a.file.now a.start a.count, c.loop-i-test.false))) c.loop-i.invariant
