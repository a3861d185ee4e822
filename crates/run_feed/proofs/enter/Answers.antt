use mathlib.Core.Path.{sym, ◌∙◌}
use Rattle.run_feed.proofs.Raising.{entered_known, entered_new}
use Rattle.run_feed.proofs.enter.Goals as goal

pub returns-then-contains : goal.returns-then-contains
returns-then-contains c = entered_known _ c.args.h _ _ _ _ c.requires.3 (sym c.contains.ensures ∙ c.if-contains.true)

pub returns : goal.returns
returns c = entered_new _ c.args.h _ _ _ _ _ _ c.insert.ensures c.add_raisers.ensures
