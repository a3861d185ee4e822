use mathlib.Core.Path.{refl}
use Rattle.refusals.proofs.Numbers.{passed_on}
use Rattle.normal.proofs.Turns.{heavy_answers}
use Rattle.normal.proofs.write.Goals as goal

pub returns-in_err-arcs-clause-answer : goal.returns-in_err-arcs-clause-answer
returns-in_err-arcs-clause-answer c =
    rw (passed_on _ c.from_residual.ensures.1) ((heavy_answers c.args.plan.now c.args.h c.args.buffer.now c.in_err-arcs.ensures refl).answer)
