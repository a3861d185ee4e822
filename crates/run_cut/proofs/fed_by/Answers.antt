use Rattle.run_cut.proofs.Tracing.{criterion_known, starts, traced}
use Rattle.run_cut.proofs.fed_by.Goals as goal

pub enter_criterion-requires-clause-known : goal.enter_criterion-requires-clause-known
enter_criterion-requires-clause-known c = criterion_known _ c.args.h _ _ c.requires.given

pub back-requires-clause-sound : goal.back-requires-clause-sound
back-requires-clause-sound c = (c.requires.given.sound, c.index.ensures, criterion_known _ c.args.h _ _ c.requires.given)

pub back-requires-clause-back : goal.back-requires-clause-back
back-requires-clause-back c =
    let tables = c.requires.lent in
    let sets = c.requires.empty in
    starts _ c.args.h _ _ c.requires.given _ _ _ _ _ _ _ _ tables.0 tables.1 sets.0.none sets.1.none sets.1.long c.enter_criterion.ensures

pub returns : goal.returns
returns c = traced _ c.args.h _ _ c.requires.given _ _ _ _ _ c.back.ensures
