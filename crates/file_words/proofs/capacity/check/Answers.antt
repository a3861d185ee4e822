use Rattle.std.proofs.Common.{sym, ◌∙◌}
use Rattle.file_words.proofs.Laws.{zero_or_16}
use Rattle.file_words.proofs.capacity.check.Goals as goal

pub returns-else-bounded : goal.returns-else-bounded
returns-else-bounded c = zero_or_16 _ _ _ (sym c.bounded.ensures ∙ c.if-bounded.false)
