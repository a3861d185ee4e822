use Rattle.std.proofs.Common.{sym, ◌∙◌}
use Rattle.file_words.proofs.Rising.{zero_or_8}
use Rattle.file_words.proofs.origins.check.Goals as goal

pub returns-else-rises : goal.returns-else-rises
returns-else-rises c = zero_or_8 _ _ _ _ (sym c.rises.ensures ∙ c.if-rises.false)
