use Rattle.refusals.specs.declared.Refusal.TheVariants.{Id}
use mathlib.Core.Path.{sym, ◌∙◌}
use Rattle.pnml_plan.proofs.Laws as laws
use Rattle.pnml_plan.proofs.write_named.Goals as goal

pub index-requires : goal.index-requires
index-requires c = laws.blank c.requires.listing.few c.requires.blanks

pub returns-then-index : goal.returns-then-index
returns-then-index c =
    laws.told c.args.text.now c.args.buffer.now Id _ (sym (laws.twice_is c.requires.listing c.index.ensures.answer) ∙ c.if-index.true)

pub write_joined-requires : goal.write_joined-requires
write_joined-requires c =
    record { text_len_bound = c.requires.text_len_bound; listing = c.requires.listing; indexed = c.index.ensures.index c.if-index.false }

pub returns : goal.returns
returns c =
    laws.passed c.args.text.now 19 _ (sym (laws.twice_is c.requires.listing c.index.ensures.answer) ∙ c.if-index.false) c.write_joined.ensures
