use Rattle.file_header.specs.Refusal.{trailer_refusal}
use Rattle.file_header.proofs.tail.check.Goals as goal

pub returns-then-letters_wrong : goal.returns-then-letters_wrong
unfolding trailer_refusal
returns-then-letters_wrong c = rw (← c.letters_wrong.ensures, c.if-letters_wrong.true)

pub returns-then-kind_wrong : goal.returns-then-kind_wrong
unfolding trailer_refusal
returns-then-kind_wrong c = rw (← c.letters_wrong.ensures, c.if-letters_wrong.false, ← c.kind_wrong.ensures, c.if-kind_wrong.true)

pub returns-then-counts_wrong : goal.returns-then-counts_wrong
unfolding trailer_refusal
returns-then-counts_wrong c =
    rw (← c.letters_wrong.ensures, c.if-letters_wrong.false, ← c.kind_wrong.ensures, c.if-kind_wrong.false, ← c.counts_wrong.ensures, c.if-counts_wrong.true)

pub returns-then-body_wrong : goal.returns-then-body_wrong
unfolding trailer_refusal
returns-then-body_wrong c =
    rw (← c.letters_wrong.ensures, c.if-letters_wrong.false, ← c.kind_wrong.ensures, c.if-kind_wrong.false, ← c.counts_wrong.ensures, c.if-counts_wrong.false, ← c.body_wrong.ensures, c.if-body_wrong.true)

pub returns : goal.returns
unfolding trailer_refusal
returns c =
    rw (← c.letters_wrong.ensures, c.if-letters_wrong.false, ← c.kind_wrong.ensures, c.if-kind_wrong.false, ← c.counts_wrong.ensures, c.if-counts_wrong.false, ← c.body_wrong.ensures, c.if-body_wrong.false)
