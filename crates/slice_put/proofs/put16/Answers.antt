use native.Mathlib.Numerals.{add-one}
use Rattle.file_words.specs.Word.{bytes16}
use Rattle.slice_put.proofs.put16.Goals as goal

pub returns : goal.returns
unfolding bytes16
returns c = rw add-one
