use Rattle.run_cut.proofs.Tracing.{empty}
use Rattle.run_cut.proofs.write_by.Goals as goal

pub fed_by-end-requires-clause-empty : goal.fed_by-end-requires-clause-empty
fed_by-end-requires-clause-empty c = (empty, empty)
