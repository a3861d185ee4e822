use mathlib.Core.Path.{sym, subst⁻¹, ◌∙◌}
use Rattle.replay_steps.specs.Steps.{Listed}
use Rattle.inputs_starts.proofs.Calls.{entries}
use Rattle.starting.proofs.Replayed.{listed}
use Rattle.starting.proofs.replays.begin.Goals as goal

pub copy-requires : goal.copy-requires
copy-requires c = c.requires.places ∙ sym (entries c.requires.startable)

-- the marking is the start
pub small-requires-clause-listed : goal.small-requires-clause-listed
small-requires-clause-listed c = subst⁻¹ (Listed c.args.file.now c.args.h c.args.list.now) c.copy.ensures (listed c.requires.startable c.requires.list)
