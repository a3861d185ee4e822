use Rattle.std.proofs.Common.{◌≡◌, ℕ, ◌+◌, ◌*◌, ◌<◌, get_or}
use Rattle.file_words.specs.Word.{le32}
use Rattle.replay.proofs.load_each.Given as goal

abbrev pub invariant-loop-p : goal.invariant-loop-p
invariant-loop-p g l = (p : ℕ) → p < l.p → get_or l.marking p 0 ≡ le32 l.file (l.start + g.row.SIZE * p)
