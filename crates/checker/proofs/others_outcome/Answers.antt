use Rattle.check_rules.proofs.Steps.{broken_here, range4}
use Rattle.checker.proofs.OnePass.{agreed_told}
use Rattle.checker.proofs.others_outcome.Goals as goal

pub returns-then-doubt-gt10 : goal.returns-then-doubt-gt10
returns-then-doubt-gt10 c = agreed_told _ _ _ _ c.if-doubt-gt10.true c.agreeing-found.ensures.agreed

pub returns-then-t-hp : goal.returns-then-t-hp
returns-then-t-hp c = broken_here 4 _ _ _ _ (range4 _ _) (c.agreeing-found.ensures.other_value c.if-t-hp.true) c.if-t-hp.true
