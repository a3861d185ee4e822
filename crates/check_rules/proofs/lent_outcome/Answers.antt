use Rattle.arcs_starts.proofs.Reached.{tabled}
use Rattle.check_rules.proofs.lent_outcome.Goals as goal

pub starts-requires : goal.starts-requires
starts-requires c = tabled _ _ _ c.requires.judged.planned c.requires.room.starts
