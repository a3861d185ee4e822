use Rattle.file_words.specs.Word.{le32}
use borrow.Author.Rules.{rules}
use Rattle.file_words.proofs.get32.Goals as goal

pub returns : goal.returns
unfolding le32
returns c = search rules
