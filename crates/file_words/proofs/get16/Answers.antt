use Rattle.file_words.specs.Word.{le16}
use borrow.Author.Rules.{rules}
use Rattle.file_words.proofs.get16.Goals as goal

pub returns : goal.returns
unfolding le16
returns c = search rules
