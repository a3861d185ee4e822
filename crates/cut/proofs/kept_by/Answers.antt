use Rattle.file.proofs.Criterion.{passed}
use Rattle.cut.proofs.kept_by.Goals as goal

pub grow-requires : goal.grow-requires
grow-requires c =
    let indexed = c in
    let start = indexed in
    (start.requires.sound, indexed.index.ensures, (passed _ _ start.requires.criterion_value).known)
