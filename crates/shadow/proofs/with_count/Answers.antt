use mathlib.Core.Path.{sym, ap}
use Rattle.replay.specs.declared.Outcome.{Outcome}
use Rattle.shadow.specs.Told.{with_count}
use Rattle.shadow.proofs.with_count.Goals as goal

pub returns-in-Fired : goal.returns-in-Fired
returns-in-Fired c = ap (λ (o : Outcome). with_count o c.args.count) (sym c.in-Fired.is)

pub returns-in-Short : goal.returns-in-Short
returns-in-Short c = ap (λ (o : Outcome). with_count o c.args.count) (sym c.in-Short.is)

pub returns-in-Full : goal.returns-in-Full
returns-in-Full c = ap (λ (o : Outcome). with_count o c.args.count) (sym c.in-Full.is)
