use mathlib.Core.Path.{sym, ap, ◌∙◌}
use Rattle.refusals.proofs.Numbers.{passed_on}
use Rattle.replay.specs.Told.{ended_numbers}
use Rattle.run_cut.proofs.Outcomes.{refused_list, short_list, full_list, given}
use Rattle.run_cut.proofs.run.Goals as goal

pub returns-in_err-outcome : goal.returns-in_err-outcome
returns-in_err-outcome c = rw (passed_on _ c.from_residual.ensures.1) (refused_list _ c.args.h _ _ _ _ _ c.in_err-outcome.ensures)

pub write_fed-requires : goal.write_fed-requires
write_fed-requires c =
    given _ c.args.h _ _ c.args.buffer.now c.args.positions.now (sym (ap ended_numbers c.in-Fired.is) ∙ c.in_ok-outcome.ensures) c.requires.0 c.requires.1

pub returns-in-Short : goal.returns-in-Short
returns-in-Short c = short_list _ c.args.h _ _ _ _ _ _ _ (sym (ap ended_numbers c.in-Short.is) ∙ c.in_ok-outcome.ensures)

pub returns-in-Full : goal.returns-in-Full
returns-in-Full c = full_list _ c.args.h _ _ _ _ _ _ _ (sym (ap ended_numbers c.in-Full.is) ∙ c.in_ok-outcome.ensures)
