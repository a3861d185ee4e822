use Rattle.std.proofs.Common.{sym, ◌∙◌}
use Rattle.file.proofs.Caps.{none_capped}
use Rattle.replay_fast.proofs.ahead_by.Goals as goal

pub march_either-requires-clause-plain : goal.march_either-requires-clause-plain
march_either-requires-clause-plain g c = record { ready = c.requires.ready; uncapped = none_capped c.args.file.now c.args.h (sym c.has_caps.ensures ∙ c.if-has_caps.false) }
